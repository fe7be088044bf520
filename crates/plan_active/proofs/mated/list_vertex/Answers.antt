-- `list_vertex` meets its contract: each return by its test.
use mathlib.Core.Path.{refl}
use native.Mathlib.Omega.{arith}
use Rattle.base_finite.specs.Laws.Below.{counted_true, counted_false}
use Rattle.plan_active.specs.Laws.Listed.{own_mate, other_mate}
use Rattle.plan_active.proofs.mated.list_vertex.Goals as goal

-- its own mate
pub returns-then-at-v : goal.returns-then-at-v
returns-then-at-v c =
    let args = c.args in
    let none = own_mate args.mates.now args.v c.at.ensures refl c.if-at-v.true in
    record { value = omega (arith, counted_false none 1); members_value = rw none }

pub returns : goal.returns
returns c =
    let args = c.args in
    let one = other_mate args.mates.now args.v c.at.ensures refl c.if-at-v.false in
    record { value = omega (arith, counted_true one 1); members_value = rw one c.put.ensures }
