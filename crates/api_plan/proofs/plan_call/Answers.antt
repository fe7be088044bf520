-- `plan_call` meets its contract: counts that fit get what `plan` answers, others are 7 after the survey's refusals.
use Rattle.api_plan.specs.Laws.Call.{plan_short_code, plan_short_marks, plan_short_records, plan_short_counts, plan_marks_law, plan_records_law, plan_finished, plan_stored, plan_call_refused, plan_kept}
use Rattle.api_plan.proofs.plan_call.Goals as goal

-- 1 to 6, 18, or 7
pub returns-then-counts-lt-PLAN_FIGURES : goal.returns-then-counts-lt-PLAN_FIGURES
returns-then-counts-lt-PLAN_FIGURES c =
    let short = c.if-counts-lt-PLAN_FIGURES.true in record { code = plan_short_code _ _ _ _ short c.short_counts.ensures; marks = plan_short_marks _ _ _ _ short; records = plan_short_records _ _ _ _ short; counts = plan_short_counts _ _ _ _ short }

-- finished
pub returns-in-Finished : goal.returns-in-Finished
returns-in-Finished c =
    let long = c.if-counts-lt-PLAN_FIGURES.false in record { code = plan_finished _ _ _ _ long c.plan-answer.ensures.result_value _ _ _ _ _ c.in-Finished.is; marks = plan_marks_law _ _ _ _ long c.plan-answer.ensures.marks_value; records = plan_records_law _ _ _ _ long c.plan-answer.ensures.records_value; counts = plan_stored _ _ _ _ long c.plan-answer.ensures.result_value _ _ _ _ _ c.in-Finished.is c.store_five.ensures }

-- refused
pub returns-in-Refused : goal.returns-in-Refused
returns-in-Refused c =
    let long = c.if-counts-lt-PLAN_FIGURES.false in record { code = plan_call_refused _ _ _ _ long c.plan-answer.ensures.result_value _ _ c.in-Refused.is c.code.ensures; marks = plan_marks_law _ _ _ _ long c.plan-answer.ensures.marks_value; records = plan_records_law _ _ _ _ long c.plan-answer.ensures.records_value; counts = plan_kept _ _ _ _ long c.plan-answer.ensures.result_value _ _ c.in-Refused.is }
