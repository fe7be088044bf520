-- `format_read::number_line` meets its contract: a refusal stays, and after the key comes the number.
use mathlib.Core.Path.{sym, ◌∙◌}
use Rattle.format_read.specs.Number.{stop_of, number_line}
use Rattle.format_read.proofs.Laws.NumberStep.{refusal_stays, value_goes}
use Rattle.format_read.proofs.line.number_line.Goals as goal

pub returns-in_default : goal.returns-in_default
unfolding number_line
returns-in_default c = refusal_stays _ c.fixed-step.ensures c.in_default.is

pub returns : goal.returns
unfolding number_line stop_of
returns c = c.number_to.ensures ∙ sym (value_goes _ c.fixed-step.ensures c.in-Value.is)
