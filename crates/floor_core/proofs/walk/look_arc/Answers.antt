-- `look_arc` meets its contract: the arc comes from inside, or is at the rim, or its tail is found.
use mathlib.Core.Path.{refl}
use native.Mathlib.Omega.{arith}
use Rattle.floor_core.specs.Laws.Walk.{look_inside, look_rim, look_found}
use Rattle.floor_core.proofs.walk.look_arc.Goals as goal

pub returns-then-at-ne0 : goal.returns-then-at-ne0
returns-then-at-ne0 c = record { vertices_bound = (omega arith, omega arith); turn = look_inside _ _ _ _ _ _ _ _ refl c.at.ensures c.if-at-ne0.true }

pub returns-then-at-ne0-2 : goal.returns-then-at-ne0-2
returns-then-at-ne0-2 c =
    record { vertices_bound = (omega arith, omega arith); turn = look_rim _ _ _ _ _ _ _ _ refl c.at.ensures c.if-at-ne0.false refl c.at-2.ensures c.told-rim c.if-at-ne0-2.true c.put.ensures }

pub returns : goal.returns
returns c =
    record { vertices_bound = (omega arith, omega arith); turn = look_found _ _ _ _ _ _ _ _ refl c.at.ensures c.if-at-ne0.false refl c.at-2.ensures c.if-at-ne0-2.false refl c.put-2.ensures c.put-3.ensures }
