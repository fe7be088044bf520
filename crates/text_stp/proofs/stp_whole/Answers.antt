-- `stp_whole` meets its contract: what is printed fits, so that no refusal comes.
use Prim.Native.Nat.{◌≤◌}
use native.Mathlib.Omega.{arith}
use mathlib.Core.Path.{ap, ◌∙◌}
use lib.ListN.{length, drop, length-append}
use Rattle.format_print.specs.Laws.Print.{fitting_length, fitting_never, fitting_out}
use Rattle.text_stp.specs.StpOutput.{stp_output}
use Rattle.text_stp.proofs.stp_whole.Goals as goal

-- 7 cannot come
pub returns-in_default : goal.returns-in_default
returns-in_default c =
    let a = c.args in
    let fits : length (stp_output a.text.now) ≤ length a.out.now = omega (arith, c.stp_text-answer.ensures.fits) in
    absurd (fitting_never (stp_output a.text.now) a.out.now fits c.stp_text-answer.ensures.value c.in_default.is)

-- printed
pub returns : goal.returns
returns c =
    let a = c.args in
    let fits : length (stp_output a.text.now) ≤ length a.out.now = omega (arith, c.stp_text-answer.ensures.fits) in
    let n = fitting_length (stp_output a.text.now) a.out.now fits c.stp_text-answer.ensures.value c.in-Length.is in
    let out = c.stp_text-answer.ensures.out_value ∙ fitting_out (stp_output a.text.now) a.out.now fits in
    let long = ap length out ∙ length-append (stp_output a.text.now) (drop (length (stp_output a.text.now)) a.out.now) in
    record { value = n; out_value = out; fits = omega (arith, n, long) }
