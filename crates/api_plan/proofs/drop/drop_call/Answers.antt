-- `drop_call` meets its contract: counts that fit get what `prune_plan` answers, others are 7 after the survey's refusals.
use Rattle.api_plan.specs.Laws.GrowCall.{drop_short_code, drop_short_marks, drop_short_counts, drop_marks_law, drop_finished, drop_stored, drop_refused, drop_kept}
use Rattle.api_plan.proofs.drop.drop_call.Goals as goal

-- 1 to 6, 18, or 7
pub returns-then-counts-lt-DROP_FIGURES : goal.returns-then-counts-lt-DROP_FIGURES
returns-then-counts-lt-DROP_FIGURES c =
    let short = c.if-counts-lt-DROP_FIGURES.true in
    record { code = drop_short_code _ _ _ short c.short_counts.ensures; marks = drop_short_marks _ _ _ short; counts = drop_short_counts _ _ _ short }

-- finished
pub returns-in-Finished : goal.returns-in-Finished
returns-in-Finished c =
    let long = c.if-counts-lt-DROP_FIGURES.false in record { code = drop_finished _ _ _ long c.prune_plan-answer.ensures.result_value _ _ c.in-Finished.is; marks = drop_marks_law _ _ _ long c.prune_plan-answer.ensures.marks_value; counts = drop_stored _ _ _ long c.prune_plan-answer.ensures.result_value _ _ c.in-Finished.is c.store_two.ensures }

-- refused
pub returns-in-Refused : goal.returns-in-Refused
returns-in-Refused c =
    let long = c.if-counts-lt-DROP_FIGURES.false in record { code = drop_refused _ _ _ long c.prune_plan-answer.ensures.result_value _ _ c.in-Refused.is c.code.ensures; marks = drop_marks_law _ _ _ long c.prune_plan-answer.ensures.marks_value; counts = drop_kept _ _ _ long c.prune_plan-answer.ensures.result_value _ _ c.in-Refused.is }
