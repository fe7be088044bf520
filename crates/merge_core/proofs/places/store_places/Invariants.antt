-- `store_places` meets its contract: one more place in each turn (`head_more`).
use Prim.Native.Nat.{◌+◌, ◌≤◌}
use mathlib.Core.Path.{◌≡◌}
use lib.ListN.{take}
use lib.Seq.{sets}
use Rattle.base_finite.specs.Below.{count_below, tabulate}
use Rattle.merge_rule.specs.Ties.{ties_from, is_untied, placed}
use Rattle.merge_core.proofs.places.store_places.Given as goal

abbrev pub invariant-loop-v : goal.invariant-loop-v
invariant-loop-v l = (l.v ≤ l.m) × ((l.next ≡ l.n + count_below l.v (is_untied (ties_from l.firsts l.seconds))) × (l.places ≡ sets l.initial.places 0 (take l.v (tabulate l.m (placed l.n (ties_from l.firsts l.seconds))))))
