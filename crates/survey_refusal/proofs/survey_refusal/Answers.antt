-- `survey_refusal::edges` meets its contract: pairs of two lengths, or the other buffers and then the pairs.
use mathlib.Core.Path.{sym, ◌∙◌}
use Rattle.base_limits.specs.Laws.Verdict.{passed_on, goes_on_law}
use Rattle.survey_core.proofs.Laws.Refusal.{pairs_differ, pairs_decide}
use native.Mathlib.Omega.{arith}
use Rattle.survey_refusal.proofs.survey_refusal.Goals as goal

-- the pair buffers differ in length
pub returns-then-owners-others : goal.returns-then-owners-others
returns-then-owners-others c = c.uneven_refusal.ensures ∙ sym (pairs_differ _ c.if-owners-others.true)

-- 1 to 6
pub returns-in_default : goal.returns-in_default
returns-in_default c =
    passed_on c.survey_refusal-found.ensures c.in_default.is _
    ∙ sym (pairs_decide _ _ _ _ _ _ (omega arith))

-- 18 or nothing
pub returns : goal.returns
returns c =
    goes_on_law c.survey_refusal-found.ensures c.in-Fine.is c.pairs_refusal.ensures
    ∙ sym (pairs_decide _ _ _ _ _ _ (omega arith))
