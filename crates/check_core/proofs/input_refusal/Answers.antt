-- `input_refusal` meets its contract: the first finding stands.
use Rattle.base_limits.specs.Laws.Verdict.{passed_on, goes_on_law}
use Rattle.survey_core.specs.Survey.{edge_count}
use Rattle.check_rule.specs.Check.{shape_refusal}
use Rattle.check_core.specs.Stage.{input_refusal}
use Rattle.check_core.proofs.input_refusal.Goals as goal

-- 1 to 6 and 18
pub returns-in_default : goal.returns-in_default
unfolding input_refusal
returns-in_default c = passed_on c.survey_refusal-unsound.ensures c.in_default.is _

-- 9
pub returns-in_default-unshaped : goal.returns-in_default-unshaped
unfolding input_refusal shape_refusal edge_count
returns-in_default-unshaped c =
    goes_on_law c.survey_refusal-unsound.ensures c.in-Fine.is (passed_on c.shape_refusal-unshaped.ensures c.in_default-unshaped.is _)

-- 10 or nothing
pub returns : goal.returns
unfolding input_refusal shape_refusal edge_count
returns c =
    goes_on_law c.survey_refusal-unsound.ensures c.in-Fine.is
    (goes_on_law c.shape_refusal-unshaped.ensures c.in-Fine-unshaped.is c.marks_refusal.ensures)
