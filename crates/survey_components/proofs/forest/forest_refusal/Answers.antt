-- `forest_refusal` meets its contract: each return by the law of its case.
use mathlib.Core.Path.{sym}
use Rattle.base_limits.specs.Laws.Verdict.{passed_on}
use Rattle.survey_core.specs.Survey.{survey_from}
use Rattle.survey_components.specs.Forest.{forest_refusal}
use Rattle.survey_components.specs.Laws.Forest.{marks_uneven, marks_even, ends_below}
use Rattle.survey_components.proofs.forest.forest_refusal.Goals as goal

-- 1 to 6
pub returns-in_default : goal.returns-in_default
unfolding forest_refusal
returns-in_default c = passed_on c.survey_refusal-found.ensures c.in_default.is _

-- 9
pub returns-then-picked-firsts : goal.returns-then-picked-firsts
returns-then-picked-firsts c = sym (marks_uneven _ _ c.survey_refusal-found.ensures c.in-Fine.is c.if-picked-firsts.true)

pub loop_refusal-requires : goal.loop_refusal-requires
loop_refusal-requires c = ends_below (survey_from _ _ _ _) c.survey_refusal-found.ensures c.in-Fine.is

-- 21, 14, or nothing
pub returns : goal.returns
returns c =
    marks_even _ _ _ _ _ c.survey_refusal-found.ensures c.in-Fine.is c.if-picked-firsts.false
    c.loop_refusal.ensures
