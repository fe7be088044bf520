-- `format_survey::counts::counts` meets its contract: a refusal of either line stays, and a value goes on.
use mathlib.Core.Path.{sym, ◌∙◌}
use Rattle.format_survey.specs.Line.{counts_at}
use Rattle.format_survey.specs.LinesAnswer.{counts_step}
use Rattle.format_read.proofs.Laws.NumberStep.{stopped_stays, value_goes}
use Rattle.format_survey.proofs.counts.counts.Goals as goal

pub returns-in_default : goal.returns-in_default
unfolding counts_at
returns-in_default c = c.stopped_head.ensures ∙ stopped_stays _ c.vertices_line-one.ensures c.in_default.is

pub returns-in_default-two : goal.returns-in_default-two
unfolding counts_at
returns-in_default-two c =
    c.stopped_head-in_default-two.ensures
    ∙ stopped_stays _ c.edges_line-two.ensures c.in_default-two.is
    ∙ sym (value_goes _ c.vertices_line-one.ensures c.in-Value.is)

pub returns : goal.returns
unfolding counts_at counts_step
returns c = sym (value_goes _ c.edges_line-two.ensures c.in-Value-two.is) ∙ sym (value_goes _ c.vertices_line-one.ensures c.in-Value.is)
