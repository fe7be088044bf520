-- `visit_member` meets its contract: a branch on the vertex's group.
use mathlib.Core.Path.{refl, ◌∙◌}
use Rattle.floor_core.specs.Laws.State.{member_passed, member_visited}
use Rattle.floor_core.proofs.ascent.visit_member.Goals as goal

pub returns-then-from-l : goal.returns-then-from-l
returns-then-from-l c = record { got_value = member_passed _ _ _ _ _ _ _ _ (c.from.ensures ∙ c.at.ensures) c.if-from-l.true; more_value = λ h. (h, refl); done_2 = c.requires.done }

pub returns : goal.returns
returns c = record { got_value = member_visited _ _ _ _ _ _ _ _ (c.from.ensures ∙ c.at.ensures) c.if-from-l.false c.visit.ensures.got_value; more_value = c.visit.ensures.more_value; done_2 = c.visit.ensures.done_2 }
