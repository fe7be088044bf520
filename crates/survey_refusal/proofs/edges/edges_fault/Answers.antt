-- `edges_fault` meets its contract: one track more is tested at each turn.
use native.Mathlib.Omega.{arith}
use mathlib.Core.Path.{refl}
use Rattle.base_finite.specs.Below.{counted, any_below}
use Rattle.survey_refusal.specs.Laws.EdgesFault.{faults_more, faults_end}
use Rattle.survey_refusal.proofs.edges.edges_fault.Goals as goal

pub loop-e-init : goal.loop-e-init
unfolding counted any_below
loop-e-init c = (omega arith, refl)

pub loop-e-preserved : goal.loop-e-preserved
loop-e-preserved c = (
  omega arith,
  faults_more _ _ c.loop-e.invariant.1
      (rw (← c.at.ensures, ← c.at-in-loop-e.ensures, ← c.at-in-loop-e-2.ensures) c.edge_fault-found.ensures),
)

pub returns : goal.returns
returns c = faults_end _ _ _ c.loop-e.invariant.0 c.loop-e-test.false c.loop-e.invariant.1
