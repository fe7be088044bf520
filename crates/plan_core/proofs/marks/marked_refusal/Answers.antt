-- `marked_refusal` meets its contract: the stages, one after the other, come to the definition.
use Rattle.plan_core.specs.Laws.Stages.{unsound_stops, uneven_stops, marks_decide}
use Rattle.plan_core.proofs.marks.marked_refusal.Goals as goal

-- 1 to 6 and 18
pub returns-in_default : goal.returns-in_default
returns-in_default c = unsound_stops _ _ c.survey_refusal-unsound.ensures c.in_default.is

-- 9
pub returns-then-marks-firsts : goal.returns-then-marks-firsts
returns-then-marks-firsts c =
    uneven_stops _ _ c.survey_refusal-unsound.ensures c.in-Fine.is c.if-marks-firsts.true

-- 10, or nothing
pub returns : goal.returns
returns c =
    marks_decide _ _ c.survey_refusal-unsound.ensures c.in-Fine.is c.if-marks-firsts.false (rw (← c.if-marks-firsts.false) c.marks_refusal.ensures)
