-- `pass` meets its contract: one group after the other.
use mathlib.Core.Path.{refl, ◌∙◌}
use Rattle.floor_rule.specs.Ascent.{visit_groups}
use Rattle.floor_core.specs.Laws.State.{groups_more, groups_end}
use Rattle.floor_core.proofs.ascent.pass.Goals as goal

pub loop-l-init : goal.loop-l-init
unfolding visit_groups
loop-l-init c = (refl, λ h. refl, c.requires.done)

pub loop-l-preserved : goal.loop-l-preserved
loop-l-preserved c = let inv = c.loop-l.invariant in (groups_more _ _ _ _ _ _ _ _ inv.0 c.visit_group-more.ensures.got_value, λ h. let x = c.visit_group-more.ensures.more_value h in x.1 ∙ inv.1 x.0, c.visit_group-more.ensures.done_2)

pub returns : goal.returns
returns c = let inv = c.loop-l.invariant in record { got_value = groups_end _ _ _ _ _ _ _ _ _ c.loop-l.auto.l-end c.loop-l-test.false inv.0; got_value_2 = inv.1; done_2 = inv.2 }
