-- `list_members` meets its contract: before each turn the members below v are listed and counted.
use Prim.Native.Nat.{◌≤◌}
use mathlib.Core.Path.{◌≡◌}
use Rattle.base_finite.specs.Below.{count_below}
use Rattle.plan_active.specs.Flags.{has_mate, gathered}
use Rattle.plan_active.proofs.mated.list_members.Given as goal

abbrev pub invariant-loop-v : goal.invariant-loop-v
invariant-loop-v l =
    (l.v ≤ l.n) × (l.count ≡ count_below l.v (has_mate l.mates)) × (l.members ≡ gathered (has_mate l.mates) l.v l.initial.members)
