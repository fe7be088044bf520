-- `print_dual`: refused by the length of the record, by the measured line, or printed.
use Prim.Native.Nat.{◌<◌}
use native.Mathlib.Omega.{arith}
use mathlib.Core.Path.{◌∙◌}
use lib.ListN.{length}
use Rattle.format_write.specs.Wrote.{farthest}
use Rattle.format_write.specs.Text.{dual_line}
use Rattle.format_print.specs.Laws.Print.{short_prints, fit_prints, dual_short_answer, dual_short_out, dual_answer, dual_out_law}
use Rattle.format_print.proofs.lines.print_dual.Goals as goal

-- 9: a record of another length
pub returns-then-part-ne-RECORD_BYTES : goal.returns-then-part-ne-RECORD_BYTES
returns-then-part-ne-RECORD_BYTES c =
    let a = c.args in
    record { value = dual_short_answer a.part.now a.out.now c.if-part-ne-RECORD_BYTES.true; out_value = dual_short_out a.part.now a.out.now c.if-part-ne-RECORD_BYTES.true }

-- 7: the buffer is short
pub returns-then-out-need : goal.returns-then-out-need
returns-then-out-need c =
    let a = c.args in
    let small : length a.out.now < farthest = omega arith in
    let whole = c.if-part-ne-RECORD_BYTES.false in
    let p = short_prints (dual_line a.part.now) a.out.now small c.put_dual-need.ensures c.if-out-need.true in
    record { value = p.answers ∙ dual_answer a.part.now a.out.now whole; out_value = p.leaves ∙ dual_out_law a.part.now a.out.now whole }

-- printed
pub returns : goal.returns
returns c =
    let a = c.args in
    let small : length a.out.now < farthest = omega arith in
    let whole = c.if-part-ne-RECORD_BYTES.false in
    let p = fit_prints (dual_line a.part.now) a.out.now small c.put_dual-need.ensures c.if-out-need.false c.put_dual.ensures in
    record { value = p.answers ∙ dual_answer a.part.now a.out.now whole; out_value = p.leaves ∙ dual_out_law a.part.now a.out.now whole }
