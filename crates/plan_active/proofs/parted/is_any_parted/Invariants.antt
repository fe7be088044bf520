-- `is_any_parted` meets its contract: before each turn none of the first k listed is parted from its mate.
use Prim.Native.Nat.{◌≤◌}
use mathlib.Core.Path.{◌≡◌}
use mathlib.Core.Bool.{false}
use lib.ListN.{get_or}
use Rattle.base_finite.specs.Below.{any_below}
use Rattle.plan_active.specs.Flags.{apart_from_mate}
use Rattle.plan_active.proofs.parted.is_any_parted.Given as goal

abbrev pub invariant-loop-k : goal.invariant-loop-k
invariant-loop-k l = (l.k ≤ l.count) × (any_below l.k (λ k. apart_from_mate l.mates l.labels l.x l.y (get_or l.members k 0)) ≡ false)
