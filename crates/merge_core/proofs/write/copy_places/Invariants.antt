-- `copy_places` meets its contract: one more store in each turn (`run_more`).
use Prim.Native.Nat.{◌≤◌}
use mathlib.Core.Path.{◌≡◌}
use lib.Seq.{sets}
use mathlib.Core.List.{map}
use lib.ListN.{length, get_or, take}
use Rattle.merge_core.proofs.write.copy_places.Given as goal

abbrev pub invariant-loop-i : goal.invariant-loop-i
invariant-loop-i l = (l.i ≤ length l.list) × (l.out ≡ sets l.initial.out l.at (take l.i (map (λ v. get_or l.places v 0) l.list)))
