-- `write_pairs` meets its contract: two more stores in each turn (`head_more`).
use Prim.Native.Nat.{◌≤◌}
use mathlib.Core.Path.{◌≡◌}
use lib.Seq.{sets}
use mathlib.Core.List.{map}
use lib.ListN.{take}
use Rattle.merge_rule.specs.Merged.{pair_vertex, pair_group}
use Rattle.merge_core.proofs.write.write_pairs.Given as goal

abbrev pub invariant-loop-i : goal.invariant-loop-i
invariant-loop-i l = (l.i ≤ l.count) × ((l.owners ≡ sets l.initial.owners 0 (take l.i (map pair_vertex (take l.count l.pairs)))) × (l.others ≡ sets l.initial.others 0 (take l.i (map pair_group (take l.count l.pairs)))))
