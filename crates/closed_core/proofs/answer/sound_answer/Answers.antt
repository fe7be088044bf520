-- `sound_answer` meets its contract: the poured groups can be joined exactly if the lists can, and have their plan (`answer_finished`).
use mathlib.Core.Path.{ap, sym, ◌∙◌}
use Rattle.survey_lists.proofs.Laws.Room.{part_poured}
use Rattle.closed_rule.specs.Closed.{closed_outcome}
use Rattle.plan_core.specs.Laws.Planned.{into_sound}
use Rattle.closed_core.specs.Laws.Answer.{answer_parted, answer_finished}
use borrow.Author.Rules.{rules}
use Rattle.closed_core.proofs.answer.sound_answer.Goals as goal

pub slice_bounds-poured_answer-end : goal.slice_bounds-poured_answer-end
slice_bounds-poured_answer-end c = let few = c.requires.few in search (rules, few)

pub poured_answer-answer-requires : goal.poured_answer-answer-requires
poured_answer-answer-requires c =
    into_sound _ c.requires (part_poured _ c.requires.few c.pour-poured.ensures)

pub unjoined_answer-requires : goal.unjoined_answer-requires
unfolding closed_outcome
unjoined_answer-requires c =
    let part = part_poured _ c.requires.few c.pour-poured.ensures in
    record { survey_sound = c.requires; others_value = answer_parted _ c.requires part (sym c.poured_answer-answer.ensures ∙ ap closed_outcome c.in-Refused.is) }

-- cost and bound
pub returns : goal.returns
unfolding closed_outcome
returns c =
    let part = part_poured _ c.requires.few c.pour-poured.ensures in
    c.poured_answer-answer.ensures ∙ answer_finished _ c.requires part (sym c.poured_answer-answer.ensures ∙ ap closed_outcome c.in_default.is)
