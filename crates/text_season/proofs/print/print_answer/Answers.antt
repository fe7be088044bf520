-- `print_answer` meets its contract, by the verdict.
use Rattle.text_season.specs.Laws.Print.{printed_as, fine_text, refused_text}
use Rattle.text_season.proofs.print.print_answer.Goals as goal

pub returns-in-Refused : goal.returns-in-Refused
returns-in-Refused c =
    let whole = printed_as _ _ _ _ (refused_text _ c.in-Refused.is) c.print_refusal.ensures.value c.print_refusal.ensures.out_value in record { value = whole.0; out_value = whole.1 }

pub returns-in-Fine : goal.returns-in-Fine
returns-in-Fine c =
    let whole = printed_as _ _ _ _ (fine_text _ c.in-Fine.is) c.print_report.ensures.value c.print_report.ensures.out_value in record { value = whole.0; out_value = whole.1 }
