-- `visit_members` meets its contract: one vertex after the other.
use mathlib.Core.Path.{refl, ◌∙◌}
use Rattle.floor_rule.specs.Ascent.{visit_members}
use Rattle.floor_core.specs.Laws.State.{members_more, members_end}
use Rattle.floor_core.proofs.ascent.visit_members.Goals as goal

pub loop-v-init : goal.loop-v-init
unfolding visit_members
loop-v-init c = (refl, λ h. (h, refl), c.requires.done)

pub loop-v-preserved : goal.loop-v-preserved
loop-v-preserved c = let inv = c.loop-v.invariant in (members_more _ _ _ _ _ _ _ _ inv.0 c.visit_member-more.ensures.got_value, λ h. let x = c.visit_member-more.ensures.more_value h in let y = inv.1 x.0 in (y.0, x.1 ∙ y.1), c.visit_member-more.ensures.done_2)

pub returns : goal.returns
returns c = let inv = c.loop-v.invariant in record { got_value = members_end _ _ _ _ _ _ _ _ _ c.loop-v.auto.v-end c.loop-v-test.false inv.0; before_value = inv.1; done_2 = inv.2 }
