-- `narrow_at` meets its contract: the arc comes from inside, or is kept.
use mathlib.Core.Path.{refl, ◌∙◌}
use native.Mathlib.Omega.{arith}
use Rattle.floor_core.specs.Laws.Arcs.{lesser_min}
use Rattle.floor_core.specs.Laws.Rim.{place_inside, place_outside}
use Rattle.floor_core.proofs.cut.narrow_at.Goals as goal

pub returns-then-at-ne0 : goal.returns-then-at-ne0
returns-then-at-ne0 c =
    record { arcs_bound = omega arith; by_index = place_inside c.args.links.now c.args.flags.now c.args.rests.now c.args.rim.now _ _ _ c.at-a.ensures refl c.at.ensures refl c.at-2.ensures c.if-at-ne0.true }

pub returns : goal.returns
returns c =
    record { arcs_bound = omega arith; by_index = place_outside c.args.links.now c.args.flags.now c.args.rests.now c.args.rim.now _ _ _ c.at-a.ensures refl c.at.ensures refl c.at-2.ensures c.if-at-ne0.false c.told-rim c.put.ensures c.at-3.ensures c.from.ensures (c.min.ensures ∙ lesser_min _ _) }
