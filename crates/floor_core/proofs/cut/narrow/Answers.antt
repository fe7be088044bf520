-- `narrow` meets its contract: one arc at the rim after the other.
use native.Mathlib.Omega.{arith}
use Rattle.floor_core.specs.Laws.Rim.{narrows_start, narrows_end}
use Rattle.floor_core.proofs.cut.narrow.Goals as goal

pub loop-j-init : goal.loop-j-init
loop-j-init c = (omega arith, narrows_start c.args.links.now _ _ _ _ _)

pub loop-j-preserved : goal.loop-j-preserved
loop-j-preserved c =
    let inv = c.loop-j.invariant in
    (omega (arith, inv.0, c.narrow_at-found.ensures.arcs_bound), c.narrow_at-found.ensures.by_index _ _ _ inv.1 c.loop-j-test.true)

pub returns : goal.returns
returns c = narrows_end c.args.links.now _ _ _ _ _ c.loop-j.invariant.1 c.loop-j-test.false c.loop-j.auto.j-end
