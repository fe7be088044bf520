-- `format_stp::sections::terminals_closed` meets its contract: a refusal of any line stays, and a value goes on to the next.
use mathlib.Core.Path.{sym, ◌∙◌}
use Rattle.format_read.proofs.Laws.NumberStep.{refusal_stays, value_goes}
use Rattle.format_stp.specs.Section.{terminals_closed}
use Rattle.format_stp.proofs.sections.terminals_closed.Goals as goal

pub returns-in_default : goal.returns-in_default
unfolding terminals_closed
returns-in_default c = refusal_stays _ c.line-one.ensures c.in_default.is

pub returns-in_default-two : goal.returns-in_default-two
unfolding terminals_closed
returns-in_default-two c = refusal_stays _ c.line-two.ensures c.in_default-two.is ∙ sym (value_goes _ c.line-one.ensures c.in-Value.is)

pub returns : goal.returns
unfolding terminals_closed
returns c = c.ended.ensures ∙ sym (value_goes _ c.line-two.ensures c.in-Value-two.is) ∙ sym (value_goes _ c.line-one.ensures c.in-Value.is)
