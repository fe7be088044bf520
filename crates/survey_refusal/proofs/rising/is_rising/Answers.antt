-- `is_rising` meets its contract: each return by the law of its case.
use native.Mathlib.Omega.{arith}
use mathlib.Core.Path.{sym}
use Rattle.survey_core.proofs.Laws.Pairs.{rising_first, rising_vertex, falling_vertex, rising_group, falling_group}
use Rattle.survey_refusal.proofs.rising.is_rising.Goals as goal

-- the first pair
pub returns-then-i-eq0 : goal.returns-then-i-eq0
returns-then-i-eq0 c = sym (rising_first _ _ _ c.if-i-eq0.true)

-- a higher vertex
pub returns-then-before-owner : goal.returns-then-before-owner
returns-then-before-owner c = sym (rising_vertex _ _ _ c.if-i-eq0.false (omega arith))

-- a lower vertex
pub returns-then-owner-before : goal.returns-then-owner-before
returns-then-owner-before c = sym (falling_vertex _ _ _ c.if-i-eq0.false (omega arith))

-- the same vertex and a higher group
pub returns-then-at : goal.returns-then-at
returns-then-at c =
    sym (rising_group _ _ _ c.if-i-eq0.false (omega arith) (omega arith) (omega arith))

-- the same vertex and no higher group
pub returns : goal.returns
returns c =
    sym (falling_group _ _ _ c.if-i-eq0.false (omega arith) (omega arith) (omega arith))
