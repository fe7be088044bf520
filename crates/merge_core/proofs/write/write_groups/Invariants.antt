-- `write_groups` meets its contract: one more store in each turn (`head_more`).
use Prim.Native.Nat.{◌≤◌}
use mathlib.Core.Path.{◌≡◌}
use lib.ListN.{length, take}
use lib.Seq.{sets}
use Rattle.base_finite.specs.Below.{tabulate}
use Rattle.merge_core.specs.Row.{own_with}
use Rattle.merge_core.specs.Pairs.{standing_in}
use Rattle.merge_core.proofs.write.write_groups.Given as goal

abbrev pub invariant-loop-w : goal.invariant-loop-w
invariant-loop-w l = (l.w ≤ l.vertices) × (l.out ≡ sets l.initial.out 0 (take l.w (tabulate l.vertices (λ w. own_with l.groups l.second_groups w (standing_in l.places (length l.second_groups) w)))))
