-- `grow_call` meets its contract: counts that fit get what `grow_plan` answers, others are 7 after the survey's refusals.
use Rattle.api_plan.specs.Laws.Call.{plan_short_code, plan_short_records, plan_records_law}
use Rattle.api_plan.specs.Laws.GrowCall.{grow_short_marks, grow_short_counts, grow_marks_law, grow_finished, grow_stored, grow_refused, grow_kept}
use Rattle.api_plan.proofs.grow.grow_call.Goals as goal

-- 1 to 6, 18, or 7
pub returns-then-counts-lt-PLAN_FIGURES : goal.returns-then-counts-lt-PLAN_FIGURES
returns-then-counts-lt-PLAN_FIGURES c =
    let short = c.if-counts-lt-PLAN_FIGURES.true in record { code = plan_short_code _ _ _ _ short c.short_counts.ensures; marks = grow_short_marks _ _ _ _ short; records = plan_short_records _ _ _ _ short; counts = grow_short_counts _ _ _ _ short }

-- finished
pub returns-in-Finished : goal.returns-in-Finished
returns-in-Finished c =
    let long = c.if-counts-lt-PLAN_FIGURES.false in record { code = grow_finished _ _ _ _ long c.grow_plan-answer.ensures.result_value _ _ _ _ _ c.in-Finished.is; marks = grow_marks_law _ _ _ _ long c.grow_plan-answer.ensures.marks_value; records = plan_records_law _ _ _ _ long c.grow_plan-answer.ensures.records_value; counts = grow_stored _ _ _ _ long c.grow_plan-answer.ensures.result_value _ _ _ _ _ c.in-Finished.is c.store_five.ensures }

-- refused
pub returns-in-Refused : goal.returns-in-Refused
returns-in-Refused c =
    let long = c.if-counts-lt-PLAN_FIGURES.false in record { code = grow_refused _ _ _ _ long c.grow_plan-answer.ensures.result_value _ _ c.in-Refused.is c.code.ensures; marks = grow_marks_law _ _ _ _ long c.grow_plan-answer.ensures.marks_value; records = plan_records_law _ _ _ _ long c.grow_plan-answer.ensures.records_value; counts = grow_kept _ _ _ _ long c.grow_plan-answer.ensures.result_value _ _ c.in-Refused.is }
