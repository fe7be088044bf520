-- `mark_pairs` meets its contract: one more pair in each turn (`paired_more`).
use Prim.Native.Nat.{◌≤◌}
use mathlib.Core.Path.{◌≡◌}
use lib.ListN.{length}
use Rattle.merge_core.specs.Row.{marked, paired_below}
use Rattle.merge_core.proofs.row.mark_pairs.Given as goal

abbrev pub invariant-loop-i : goal.invariant-loop-i
invariant-loop-i l = (l.i ≤ length l.owners) × (l.flags ≡ marked (λ g. paired_below l.owners l.others l.i g l.v) l.initial.flags)
