-- `sum_values` meets its contract: it sums upwards.
use Rattle.std.proofs.Common.{◌≡◌, ◌%◌, ◌^◌, ◌≤◌, get_or}
use Rattle.base_finite.specs.Below.{sum_below}
use Rattle.plan_rounds.proofs.bound.sum_values.Given as goal

abbrev pub invariant-loop-c : goal.invariant-loop-c
invariant-loop-c l = (l.c ≤ l.count) × (l.sum ≡ sum_below l.c (λ c. get_or l.values c 0) % 2 ^ 64)
