-- `print_findings` meets its contract: an arm for each answer.
use native.Mathlib.Omega.{arith}
use mathlib.Core.Path.{ap, sym}
use Rattle.check_printed.specs.Answer.{verified_outcome}
use Rattle.format_print.specs.Laws.Print.{prints_as}
use Rattle.text_verify.specs.Output.{findings_room, findings_text}
use Rattle.text_verify.specs.Laws.Output.{passed_text_le, refused_text_le}
use Rattle.text_verify.proofs.print.print_findings.Goals as goal

-- passed
pub returns-in-Passed : goal.returns-in-Passed
unfolding verified_outcome findings_text
returns-in-Passed c =
    let whole = prints_as findings_room _ (sym (ap (λ v. findings_text (verified_outcome v)) c.in-Passed.is)) (c.print_passed.ensures.value, c.print_passed.ensures.out_value) (passed_text_le _ _ _ (omega arith) (omega arith) (omega arith)) in record { value = whole.0; out_value = whole.1.0; fits = whole.1.1 }

-- refused
pub returns-in-Refused : goal.returns-in-Refused
unfolding verified_outcome findings_text
returns-in-Refused c =
    let whole = prints_as findings_room _ (sym (ap (λ v. findings_text (verified_outcome v)) c.in-Refused.is)) (c.print_refusal.ensures.value, c.print_refusal.ensures.out_value) (refused_text_le _ _ (omega arith) (omega arith)) in record { value = whole.0; out_value = whole.1.0; fits = whole.1.1 }
