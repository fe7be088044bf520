-- `kept_cost` meets its contract: while it runs, the sum is that of the kept edges below e.
use Prim.Native.Nat.{◌≤◌}
use mathlib.Core.Path.{◌≡◌}
use lib.ListN.{get_or}
use Rattle.base_finite.specs.Below.{counted, sum_below}
use Rattle.check_rule.specs.Check.{kept_by}
use Rattle.check_core.proofs.cost.kept_cost.Given as goal

abbrev pub invariant-loop-e : goal.invariant-loop-e
invariant-loop-e l = (l.e ≤ l.m) × (l.cost ≡ sum_below l.e (λ e. counted (kept_by l.marks e) (get_or l.weights e 0)))
