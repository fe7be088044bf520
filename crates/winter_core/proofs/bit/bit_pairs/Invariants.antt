-- `bit_pairs` meets its contract: a pair that passes is stored behind the others (`passed_more`).
use Prim.Native.Nat.{◌≤◌}
use mathlib.Core.Path.{◌≡◌}
use lib.ListN.{length}
use Rattle.base_finite.specs.Below.{count_below}
use Rattle.winter_core.specs.Bit.{pair_carries, passed}
use Rattle.winter_core.proofs.bit.bit_pairs.Given as goal

abbrev pub invariant-loop-i : goal.invariant-loop-i
invariant-loop-i l =
    (l.i ≤ length l.owners)
    × ((l.count ≡ count_below l.i (pair_carries l.strengths l.others l.bit))
    × ((l.carriers ≡ passed (pair_carries l.strengths l.others l.bit) l.owners l.initial.carriers l.i)
    × (l.carried ≡ passed (pair_carries l.strengths l.others l.bit) l.others l.initial.carried l.i)))
