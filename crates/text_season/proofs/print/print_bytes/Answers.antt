-- `print_bytes` meets its contract: the length that was answered, or none.
use Rattle.text_season.specs.Laws.Print.{bytes_printed, none_printed}
use Rattle.text_season.proofs.print.print_bytes.Goals as goal

-- nothing
pub returns-in_default : goal.returns-in_default
returns-in_default c =
    record { value = none_printed _ _ c.print_answer-answer.ensures.value c.in_default.is; out_value = c.print_answer-answer.ensures.out_value }

pub returns : goal.returns
returns c =
    record { value = bytes_printed _ _ c.print_answer-answer.ensures.value c.in-Length.is; out_value = c.print_answer-answer.ensures.out_value }
