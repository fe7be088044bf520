-- `verified_code` meets its contract: passed without room, passed, or refused.
use Rattle.api_check.specs.Laws.VerifyCall.{verified_refused, verified_short, verified_passed}
use Rattle.api_check.proofs.verify.verified_code.Goals as goal

-- 7
pub returns-then-counts-lt-CHECK_FIGURES : goal.returns-then-counts-lt-CHECK_FIGURES
returns-then-counts-lt-CHECK_FIGURES c = let whole = verified_short _ c.in-Passed.is c.if-counts-lt-CHECK_FIGURES.true in record { result_value = whole.0; counts_value = whole.1 }

-- passed
pub returns-else-counts-lt-CHECK_FIGURES : goal.returns-else-counts-lt-CHECK_FIGURES
returns-else-counts-lt-CHECK_FIGURES c =
    let whole = verified_passed c.args.counts.now c.in-Passed.is c.if-counts-lt-CHECK_FIGURES.false c.store_three.ensures in record { result_value = whole.0; counts_value = whole.1 }

-- refused
pub returns-in-Refused : goal.returns-in-Refused
returns-in-Refused c = let whole = verified_refused _ c.in-Refused.is c.code.ensures in record { result_value = whole.0; counts_value = whole.1 }
