-- `climb` meets its contract: before each turn what is left of the climb is that from x.
use mathlib.Core.Path.{ap}
use native.Mathlib.Omega.{arith}
use Rattle.survey_components.specs.Roots.{Climbed}
use Rattle.survey_components.specs.Laws.Roots.{climb_start, climb_out, climb_found, climb_turn}
use Rattle.survey_components.proofs.labels.climb.Goals as goal

pub loop-init : goal.loop-init
loop-init c = climb_start _ _ _

-- a root
pub returns-then-up-x : goal.returns-then-up-x
returns-then-up-x c =
    let end = climb_found _ _ _ _ c.loop.invariant c.loop-test.true c.at-up.ensures c.if-up-x.true in
    record { root = ap (λ (s : Climbed). s.root) end; left = ap (λ (s : Climbed). s.parents) end }

pub loop-preserved : goal.loop-preserved
loop-preserved c =
    rw c.put.ensures
    (climb_turn _ _ _ _ c.loop.invariant c.loop-test.true c.at-up.ensures c.if-up-x.false c.at-above.ensures)

-- no steps are left
pub returns : goal.returns
returns c =
    let end = climb_out _ _ _ _ c.loop.invariant (omega arith) in
    record { root = ap (λ (s : Climbed). s.root) end; left = ap (λ (s : Climbed). s.parents) end }
