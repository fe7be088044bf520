-- `check_call` meets its contract: counts that fit get what `check` finds, others are 7 after the survey's refusals.
use Rattle.api_check.specs.Laws.Call.{check_short_code, check_short_counts, check_passed, check_stored, check_call_refused, check_kept}
use Rattle.api_check.proofs.check_call.Goals as goal

-- 1 to 6, 18, or 7
pub returns-then-counts-lt-CHECK_FIGURES : goal.returns-then-counts-lt-CHECK_FIGURES
returns-then-counts-lt-CHECK_FIGURES c =
    let short = c.if-counts-lt-CHECK_FIGURES.true in
    record { code = check_short_code _ _ _ _ short c.short_counts.ensures; counts = check_short_counts _ _ _ _ short }

-- passed
pub returns-in-Passed : goal.returns-in-Passed
returns-in-Passed c =
    record { code = check_passed _ _ _ _ c.if-counts-lt-CHECK_FIGURES.false c.check-answer.ensures.result_value _ _ _ c.in-Passed.is; counts = check_stored _ _ _ _ c.if-counts-lt-CHECK_FIGURES.false c.check-answer.ensures.result_value _ _ _ c.in-Passed.is c.store_three.ensures }

-- refused
pub returns-in-Refused : goal.returns-in-Refused
returns-in-Refused c =
    record { code = check_call_refused _ _ _ _ c.if-counts-lt-CHECK_FIGURES.false c.check-answer.ensures.result_value _ _ c.in-Refused.is c.code.ensures; counts = check_kept _ _ _ _ c.if-counts-lt-CHECK_FIGURES.false c.check-answer.ensures.result_value _ _ c.in-Refused.is }
