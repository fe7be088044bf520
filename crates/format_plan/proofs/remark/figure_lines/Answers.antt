-- `figure_lines`: a refusal of any line stays, and a value goes on to the next line.
use mathlib.Core.Path.{sym, ◌∙◌}
use Rattle.format_write.specs.Key.{terminals_key, cost_key, bound_key}
use Rattle.format_read.specs.Answer.{number_step}
use Rattle.format_read.proofs.Laws.NumberStep.{refusal_stays, value_goes}
use Rattle.format_plan.specs.Remark.{figures_at}
use Rattle.format_plan.proofs.Laws.Remark.{found_as}
use Rattle.format_plan.proofs.remark.figure_lines.Goals as goal

pub returns-in_default : goal.returns-in_default
unfolding figures_at terminals_key cost_key bound_key
returns-in_default c = refusal_stays _ c.number_line-one.ensures c.in_default.is

pub returns-in_default-two : goal.returns-in_default-two
unfolding figures_at terminals_key cost_key bound_key
returns-in_default-two c =
    refusal_stays _ c.number_line-two.ensures c.in_default-two.is
    ∙ sym (value_goes _ c.number_line-one.ensures c.in-Value.is)

pub returns-in_default-three : goal.returns-in_default-three
unfolding figures_at terminals_key cost_key bound_key
returns-in_default-three c =
    refusal_stays _ c.number_line-three.ensures c.in_default-three.is
    ∙ sym (value_goes _ c.number_line-two.ensures c.in-Value-two.is)
    ∙ sym (value_goes _ c.number_line-one.ensures c.in-Value.is)

pub returns : goal.returns
unfolding figures_at terminals_key cost_key bound_key number_step
returns c =
    found_as c.shown-value.ensures _
    ∙ sym (value_goes _ c.number_line-three.ensures c.in-Value-three.is)
    ∙ sym (value_goes _ c.number_line-two.ensures c.in-Value-two.is)
    ∙ sym (value_goes _ c.number_line-one.ensures c.in-Value.is)
