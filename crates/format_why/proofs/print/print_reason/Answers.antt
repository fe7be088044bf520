-- `print_reason`: refused by the measured text, or printed.
use Prim.Native.Nat.{◌<◌}
use native.Mathlib.Omega.{arith}
use lib.ListN.{length}
use Rattle.format_write.specs.Wrote.{farthest}
use Rattle.format_print.specs.Laws.Print.{short_prints, fit_prints}
use Rattle.format_why.specs.ReasonText.{reason_text}
use Rattle.format_why.proofs.print.print_reason.Goals as goal

-- 7: the buffer is short
pub returns-then-out-need : goal.returns-then-out-need
returns-then-out-need c =
    let a = c.args in
    let text = reason_text a.track a.mark a.group a.low a.high a.round a.route.now in
    let small : length a.out.now < farthest = omega arith in
    let p = short_prints text a.out.now small c.put_reason-need.ensures c.if-out-need.true in
    record { value = p.answers; out_value = p.leaves }

-- printed
pub returns : goal.returns
returns c =
    let a = c.args in
    let text = reason_text a.track a.mark a.group a.low a.high a.round a.route.now in
    let small : length a.out.now < farthest = omega arith in
    let p = fit_prints text a.out.now small c.put_reason-need.ensures c.if-out-need.false c.put_reason.ensures in
    record { value = p.answers; out_value = p.leaves }
