-- `winter_call` meets its contract: counts that fit get what `winter` answers, others are 7 after the refusals before it.
use Rattle.api_plan.specs.Laws.WinterCall.{winter_short_code, winter_short_copies, winter_short_counts, winter_copies_law, winter_finished, winter_stored, winter_refused, winter_kept}
use Rattle.api_plan.proofs.winter.winter_call.Goals as goal

-- 1 to 6, 18, 24, or 7
pub returns-then-counts-lt-WINTER_FIGURES : goal.returns-then-counts-lt-WINTER_FIGURES
returns-then-counts-lt-WINTER_FIGURES c =
    let short = c.if-counts-lt-WINTER_FIGURES.true in
    record { code = winter_short_code _ _ _ _ short c.short_winter.ensures; copies = winter_short_copies _ _ _ _ short; counts = winter_short_counts _ _ _ _ short }

-- finished
pub returns-in-Finished : goal.returns-in-Finished
returns-in-Finished c =
    let long = c.if-counts-lt-WINTER_FIGURES.false in record { code = winter_finished _ _ _ _ long c.winter-answer.ensures.result_value _ c.in-Finished.is; copies = winter_copies_law _ _ _ _ long c.winter-answer.ensures.copies_value; counts = winter_stored _ _ _ _ long c.winter-answer.ensures.result_value _ c.in-Finished.is c.put.ensures }

-- refused
pub returns-in-Refused : goal.returns-in-Refused
returns-in-Refused c =
    let long = c.if-counts-lt-WINTER_FIGURES.false in record { code = winter_refused _ _ _ _ long c.winter-answer.ensures.result_value _ _ c.in-Refused.is c.code.ensures; copies = winter_copies_law _ _ _ _ long c.winter-answer.ensures.copies_value; counts = winter_kept _ _ _ _ long c.winter-answer.ensures.result_value _ _ c.in-Refused.is }
