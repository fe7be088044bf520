-- `format_stp::head::head` meets its contract: a refusal of any part stays, and a value goes on to the next part.
use mathlib.Core.Path.{sym, ◌∙◌}
use Rattle.format_read.proofs.Laws.NumberStep.{refusal_stays, value_goes}
use Rattle.format_stp.specs.StpReading.{stp_head}
use Rattle.format_stp.proofs.head.head.Goals as goal

pub returns-in_default : goal.returns-in_default
unfolding stp_head
returns-in_default c = refusal_stays _ c.fixed-one.ensures c.in_default.is

pub returns-in_default-two : goal.returns-in_default-two
unfolding stp_head
returns-in_default-two c = refusal_stays _ c.line-two.ensures c.in_default-two.is ∙ sym (value_goes _ c.fixed-one.ensures c.in-Value.is)

pub returns : goal.returns
unfolding stp_head
returns c =
    c.graph_section.ensures
    ∙ sym (value_goes _ c.line-two.ensures c.in-Value-two.is)
    ∙ sym (value_goes _ c.fixed-one.ensures c.in-Value.is)
