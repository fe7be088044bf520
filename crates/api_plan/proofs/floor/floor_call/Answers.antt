-- `floor_call` meets its contract: counts that fit get what `floor` answers, others are 7 after the survey's refusals.
use Rattle.api_plan.specs.Laws.FloorCall.{floor_short_code, floor_short_counts, floor_finished, floor_stored, floor_refused, floor_kept}
use Rattle.api_plan.proofs.floor.floor_call.Goals as goal

-- 1 to 6, 18, or 7
pub returns-then-counts-lt-FLOOR_FIGURES : goal.returns-then-counts-lt-FLOOR_FIGURES
returns-then-counts-lt-FLOOR_FIGURES c = let short = c.if-counts-lt-FLOOR_FIGURES.true in record { code = floor_short_code _ _ short c.short_counts.ensures; counts = floor_short_counts _ _ short }

-- finished
pub returns-in-Finished : goal.returns-in-Finished
returns-in-Finished c =
    let long = c.if-counts-lt-FLOOR_FIGURES.false in record { code = floor_finished _ _ long c.floor-answer.ensures.result_value _ _ _ _ c.in-Finished.is; counts = floor_stored _ _ long c.floor-answer.ensures.result_value _ _ _ _ c.in-Finished.is c.store_four.ensures }

-- refused
pub returns-in-Refused : goal.returns-in-Refused
returns-in-Refused c =
    let long = c.if-counts-lt-FLOOR_FIGURES.false in
    record { code = floor_refused _ _ long c.floor-answer.ensures.result_value _ _ c.in-Refused.is c.code.ensures; counts = floor_kept _ _ long c.floor-answer.ensures.result_value _ _ c.in-Refused.is }
