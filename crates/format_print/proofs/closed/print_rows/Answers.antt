-- `print_rows`: refused by the measured text, or printed.
use Prim.Native.Nat.{◌<◌}
use native.Mathlib.Omega.{arith}
use lib.ListN.{length}
use Rattle.format_write.specs.Wrote.{farthest}
use Rattle.format_print.specs.Laws.Print.{short_prints, fit_prints}
use Rattle.format_print.specs.RowText.{row_lines}
use Rattle.format_print.proofs.closed.print_rows.Goals as goal

-- 7: the buffer is short
pub returns-then-out-need : goal.returns-then-out-need
returns-then-out-need c =
    let a = c.args in
    let text = row_lines a.tracks.now a.res.now in
    let small : length a.out.now < farthest = omega arith in
    let p = short_prints text a.out.now small c.put_rows-need.ensures c.if-out-need.true in
    record { value = p.answers; out_value = p.leaves }

-- printed
pub returns : goal.returns
returns c =
    let a = c.args in
    let text = row_lines a.tracks.now a.res.now in
    let small : length a.out.now < farthest = omega arith in
    let p = fit_prints text a.out.now small c.put_rows-need.ensures c.if-out-need.false c.put_rows.ensures in
    record { value = p.answers; out_value = p.leaves }
