-- `edges_fault` meets its contract: one track more is tested at each turn.
use Prim.Native.Nat.{◌≤◌}
use mathlib.Core.Path.{◌≡◌}
use lib.ListN.{length, get_or}
use Rattle.base_finite.specs.Below.{counted, any_below}
use Rattle.survey_refusal.specs.Fault.{faulty}
use Rattle.survey_refusal.proofs.edges.edges_fault.Given as goal

abbrev pub invariant-loop-e : goal.invariant-loop-e
invariant-loop-e l =
    (l.e ≤ length l.firsts) × (l.found ≡ counted (any_below l.e (λ i. faulty l.n (get_or l.firsts i 0) (get_or l.seconds i 0) (get_or l.weights i 0))) 1)
