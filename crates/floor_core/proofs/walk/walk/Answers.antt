-- `walk` meets its contract: one vertex of the queue after the other, until the root is found or none is left.
use mathlib.Core.Path.{refl}
use native.Mathlib.Omega.{arith}
use Rattle.floor_core.specs.Laws.Walk.{walks_start, walks_next, walks_few, walks_more, walked_inside, walked_outside}
use Rattle.floor_core.proofs.walk.walk.Goals as goal

pub loop-i-init : goal.loop-i-init
loop-i-init c = walks_start _ _ _ _ _ _

pub returns-then-at-ne0 : goal.returns-then-at-ne0
returns-then-at-ne0 c = walked_inside _ _ _ _ _ _ c.loop-i.invariant _ c.at.ensures c.if-at-ne0.true

pub look_at-seen-requires : goal.look_at-seen-requires
look_at-seen-requires c =
    walks_next _ _ _ _ _ _ c.loop-i.invariant c.requires c.loop-i-test.true c.at-v.ensures refl

pub overflow_add-i : goal.overflow_add-i
overflow_add-i c =
    let few = walks_few _ _ _ _ _ _ c.loop-i.invariant c.requires in
    omega (arith, few, c.loop-i-test.true)

pub loop-i-smaller : goal.loop-i-smaller
loop-i-smaller c =
    let few = walks_few _ _ _ _ _ _ c.loop-i.invariant c.requires in
    omega (arith, few, c.loop-i-test.true)

pub loop-i-preserved : goal.loop-i-preserved
loop-i-preserved c =
    walks_more _ _ _ _ _ _ c.loop-i.invariant c.loop-i-test.true c.at-v.ensures refl c.look_at-seen.ensures

pub returns-then-at-ne0-2 : goal.returns-then-at-ne0-2
returns-then-at-ne0-2 c = walked_inside _ _ _ _ _ _ c.loop-i.invariant _ c.at-2.ensures c.if-at-ne0-2.true

pub returns : goal.returns
returns c = walked_outside _ _ _ _ _ _ c.loop-i.invariant c.loop-i-test.false _ c.at-2.ensures c.if-at-ne0-2.false
