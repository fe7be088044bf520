-- `visit_group` meets its contract: a group below k or with its share is passed over.
use mathlib.Core.Path.{refl}
use Rattle.floor_core.specs.Laws.State.{group_below, group_passed, group_visited}
use Rattle.floor_core.proofs.ascent.visit_group.Goals as goal

pub returns-then-l-k : goal.returns-then-l-k
returns-then-l-k c = record { got_value = group_below _ _ _ _ _ _ _ _ c.if-l-k.true; more_value = λ h. (h, refl); done_2 = c.requires.done }

pub returns-then-missing-eq0 : goal.returns-then-missing-eq0
returns-then-missing-eq0 c = record { got_value = group_passed _ _ _ _ _ _ _ _ c.if-l-k.false c.missing.ensures c.if-missing-eq0.true; more_value = λ h. (h, refl); done_2 = c.requires.done }

pub returns : goal.returns
returns c = record { got_value = group_visited _ _ _ _ _ _ _ _ c.if-l-k.false c.missing.ensures c.if-missing-eq0.false c.visit_members.ensures.got_value; more_value = c.visit_members.ensures.before_value; done_2 = c.visit_members.ensures.done_2 }
