-- `rounds_fit` meets its contract: a loop that stops at the first round that does not fit.
use Prim.Native.Nat.{◌≤◌}
use mathlib.Core.Path.{◌≡◌}
use mathlib.Core.Bool.{true}
use Rattle.base_finite.specs.Below.{all_below}
use Rattle.plan_draw.specs.Trace.{end_of, ends_fit}
use Rattle.plan_draw.proofs.drawable.rounds_fit.Given as goal

abbrev pub invariant-loop-r : goal.invariant-loop-r
invariant-loop-r l =
    (l.r ≤ l.rounds) × (all_below l.r (ends_fit l.n (end_of l.firsts l.order) (end_of l.seconds l.order)) ≡ true)
