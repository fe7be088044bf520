-- `format_stp::head::comment_section` meets its contract: a refusal of any part stays, and a value goes on to the next part.
use mathlib.Core.Path.{sym, ◌∙◌}
use Rattle.format_read.proofs.Laws.NumberStep.{refusal_stays, value_goes}
use Rattle.format_stp.specs.StpReading.{comment_section}
use Rattle.format_stp.proofs.head.comment_section.Goals as goal

pub returns-in_default : goal.returns-in_default
unfolding comment_section
returns-in_default c = refusal_stays _ c.fixed-one.ensures c.in_default.is

pub returns-in_default-two : goal.returns-in_default-two
unfolding comment_section
returns-in_default-two c = refusal_stays _ c.comment-two.ensures c.in_default-two.is ∙ sym (value_goes _ c.fixed-one.ensures c.in-Value.is)

pub returns : goal.returns
unfolding comment_section
returns c =
    c.line.ensures
    ∙ sym (value_goes _ c.comment-two.ensures c.in-Value-two.is)
    ∙ sym (value_goes _ c.fixed-one.ensures c.in-Value.is)
