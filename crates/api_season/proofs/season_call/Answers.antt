-- `season_call` meets its contract.
use Rattle.api_season.specs.Laws.Call.{add_short, add_refused, add_fine}
use Rattle.api_season.proofs.season_call.Goals as goal

-- 7: no room for a report
pub returns-then-report-lt-REPORT_BYTES : goal.returns-then-report-lt-REPORT_BYTES
returns-then-report-lt-REPORT_BYTES c = let whole = add_short _ _ c.if-report-lt-REPORT_BYTES.true in record { code = whole.0; report = whole.1 }

-- 3
pub returns-in-Refused : goal.returns-in-Refused
returns-in-Refused c =
    let whole = add_refused _ _ c.if-report-lt-REPORT_BYTES.false c.report_in-before.ensures c.add_survey-added.ensures.verdict_value c.in-Refused.is c.code.ensures in record { code = whole.0; report = whole.1 }

-- added
pub returns-in-Fine : goal.returns-in-Fine
returns-in-Fine c =
    let whole = add_fine _ _ c.if-report-lt-REPORT_BYTES.false c.report_in-before.ensures c.add_survey-added.ensures.verdict_value c.in-Fine.is c.add_survey-added.ensures.report_value
    c.write_report.ensures in record { code = whole.0; report = whole.1 }

pub shape_of-report-in-Fine : goal.shape_of-report-in-Fine
shape_of-report-in-Fine c = c.report-1.given
