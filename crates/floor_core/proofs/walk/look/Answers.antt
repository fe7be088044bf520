-- `look` meets its contract: one arc after the other, from the last on.
use mathlib.Core.Path.{refl}
use native.Mathlib.Omega.{arith}
use Rattle.floor_core.specs.Laws.Walk.{falls, turns_start, turns_more, turns_end}
use Rattle.floor_core.proofs.walk.look.Goals as goal

pub loop-x-init : goal.loop-x-init
loop-x-init c = (omega arith, omega arith, omega arith, turns_start _ _ _ _ _ _ _ _)

pub loop-x-smaller : goal.loop-x-smaller
loop-x-smaller c = falls c.args.links.now _ c.requires.by_index c.loop-x-test.true c.loop-x.invariant.0 refl c.at-link.ensures

pub loop-x-preserved : goal.loop-x-preserved
loop-x-preserved c =
    let low = falls c.args.links.now _ c.requires.by_index c.loop-x-test.true c.loop-x.invariant.0 refl c.at-link.ensures in
    let seen = c.look_arc-seen.ensures.vertices_bound in
    let inv = c.loop-x.invariant in (
      omega (arith, low, inv.0),
      omega (arith, low, seen.0, inv.1),
      omega (arith, low, seen.1, inv.2),
      turns_more _ _ _ _ _ _ _ _ inv.3 c.loop-x-test.true refl c.at-link.ensures c.look_arc-seen.ensures.turn,
    )

pub returns : goal.returns
returns c = turns_end _ _ _ _ _ _ _ _ c.loop-x.invariant.3 c.loop-x-test.false
