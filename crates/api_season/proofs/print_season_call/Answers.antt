-- `print_season_call` meets its contract: what `print_report` answers where so much of the buffer is lent on.
use Rattle.api_code.specs.Laws.Lending.{lent_le}
use Rattle.api_season.specs.Laws.Call.{print_short, print_into}
use Rattle.api_season.proofs.print_season_call.Goals as goal

-- 7: no report
pub returns-then-report-lt-REPORT_BYTES : goal.returns-then-report-lt-REPORT_BYTES
returns-then-report-lt-REPORT_BYTES c = let whole = print_short _ _ _ c.if-report-lt-REPORT_BYTES.true in record { code = whole.0; out = whole.1.0; counts = whole.1.1 }

pub slice_bounds-print_report-end : goal.slice_bounds-print_report-end
slice_bounds-print_report-end c = lent_le _ _ _ c.lent_on-room.ensures

pub returns : goal.returns
returns c =
    let a = c.args in
    let whole = print_into a.report.now a.out.now a.counts.now c.if-report-lt-REPORT_BYTES.false c.report_in-read.ensures c.lent_on-room.ensures
    c.print_report-answer.ensures.value
    c.print_report-answer.ensures.out_value
    c.printed_code.ensures.value
    c.printed_code.ensures.counts_value in record { code = whole.0; out = whole.1.0; counts = whole.1.1 }

pub shape_of-out : goal.shape_of-out
shape_of-out c = c.out-1.given.1

pub shape_of-counts : goal.shape_of-counts
shape_of-counts c = c.counts-1.given
