-- `print_copies` meets its contract: refused by the measured text, or printed.
use Prim.Native.Nat.{◌<◌}
use native.Mathlib.Omega.{arith}
use lib.ListN.{length}
use Rattle.format_write.specs.Wrote.{farthest}
use Rattle.format_print.specs.Laws.Print.{short_prints, fit_prints}
use Rattle.text_winter.specs.Output.{copies_text}
use Rattle.text_winter.proofs.print.print_copies.Goals as goal

-- 7
pub returns-then-out-need : goal.returns-then-out-need
returns-then-out-need c =
    let a = c.args in
    let small : length a.out.now < farthest = omega arith in
    let p = short_prints (copies_text a.total a.copies.now) a.out.now small c.put_text-need.ensures c.if-out-need.true in
    record { value = p.answers; out_value = p.leaves }

-- printed
pub returns : goal.returns
returns c =
    let a = c.args in
    let small : length a.out.now < farthest = omega arith in
    let p = fit_prints (copies_text a.total a.copies.now) a.out.now small c.put_text-need.ensures c.if-out-need.false c.put_text.ensures in
    record { value = p.answers; out_value = p.leaves }
