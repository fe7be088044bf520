-- `survey_refusal::edges` meets its contract: each return by the law of its case.
use mathlib.Core.Path.{refl, sym, ◌∙◌}
use Rattle.survey_core.proofs.Laws.Refusal.{survey_empty, survey_large, survey_uneven, survey_many, tracks_decide}
use native.Mathlib.Omega.{arith}
use Rattle.survey_refusal.proofs.edges.survey_refusal.Goals as goal

-- 1: no vertex
pub returns-then-groups-eq0 : goal.returns-then-groups-eq0
returns-then-groups-eq0 c = sym (survey_empty _ (omega arith))

-- 1: too many
pub returns-then-groups-gt-MAX_VERTICES : goal.returns-then-groups-gt-MAX_VERTICES
returns-then-groups-gt-MAX_VERTICES c = sym (survey_large _ (omega arith))

-- 2: the second ends
pub returns-then-firsts-seconds : goal.returns-then-firsts-seconds
returns-then-firsts-seconds c = sym (survey_uneven _ (omega (arith, c.if-groups-eq0.false)) (omega arith) (λ w. c.if-firsts-seconds.true w.0))

-- 2: the prices
pub returns-then-firsts-weights : goal.returns-then-firsts-weights
returns-then-firsts-weights c = sym (survey_uneven _ (omega (arith, c.if-groups-eq0.false)) (omega arith) (λ w. c.if-firsts-weights.true w.1))

-- 3
pub returns-then-firsts-gt-MAX_EDGES : goal.returns-then-firsts-gt-MAX_EDGES
returns-then-firsts-gt-MAX_EDGES c = sym (survey_many _ (omega (arith, c.if-groups-eq0.false)) (omega arith) (omega arith) (omega arith) refl (omega arith))

-- 4 to 6 or nothing
pub returns : goal.returns
returns c =
    c.edges_refusal.ensures
    ∙ tracks_decide _ _ _ _ (omega (arith, c.if-groups-eq0.false)) (omega arith) (omega arith) (omega arith) (omega arith)
