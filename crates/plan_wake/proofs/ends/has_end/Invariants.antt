-- `has_end` meets its contract: one end more is compared at each turn.
use mathlib.Core.Path.{◌≡◌}
use lib.ListN.{get_or}
use lib.Dec.{eqb}
use Rattle.base_finite.specs.Below.{counted, any_below}
use Rattle.plan_wake.proofs.ends.has_end.Given as goal

abbrev pub invariant-loop-x : goal.invariant-loop-x
invariant-loop-x l = l.found ≡ counted (any_below l.x-index (λ k. eqb (get_or l.ends k 0) l.c)) 1
