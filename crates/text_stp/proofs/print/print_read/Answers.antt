-- `print_read` meets its contract: an arm for each answer.
use native.Mathlib.Omega.{arith}
use mathlib.Core.Path.{ap}
use borrow.Author.Rules.{rules}
use Rattle.format_stp.specs.Answer.{stp_answer}
use Rattle.base_buffer.proofs.Laws.Part.{most_le, most_part}
use Rattle.text_stp.specs.Laws.Stored.{unread_printed, stored_printed_law}
use Rattle.text_stp.proofs.print.print_read.Goals as goal

pub slice_bounds-print_survey-end : goal.slice_bounds-print_survey-end
slice_bounds-print_survey-end c = let few = most_le _ _ c.at_most-n.ensures in search (rules, few)

pub slice_bounds-print_survey-end-in-Survey : goal.slice_bounds-print_survey-end-in-Survey
slice_bounds-print_survey-end-in-Survey c = let few = most_le _ _ c.at_most-f.ensures in search (rules, few)

pub slice_bounds-print_survey-end-in-Survey-2 : goal.slice_bounds-print_survey-end-in-Survey-2
slice_bounds-print_survey-end-in-Survey-2 c = let few = most_le _ _ c.at_most-s.ensures in search (rules, few)

pub slice_bounds-print_survey-end-in-Survey-3 : goal.slice_bounds-print_survey-end-in-Survey-3
slice_bounds-print_survey-end-in-Survey-3 c = let few = most_le _ _ c.at_most-w.ensures in search (rules, few)

-- the refusal
pub returns-in-Refused : goal.returns-in-Refused
unfolding stp_answer
returns-in-Refused c =
    let whole = unread_printed _ _ _ _ _ (ap stp_answer c.in-Refused.is) (c.print_refusal.ensures.value, c.print_refusal.ensures.out_value) (omega arith) (omega arith) in record { value = whole.0; out_value = whole.1.0; words = whole.1.1 }

-- the survey
pub returns-in-Survey : goal.returns-in-Survey
unfolding stp_answer
returns-in-Survey c =
    let whole = stored_printed_law _ _ _ _ _ (ap stp_answer c.in-Survey.is)
    (most_part _ _ c.at_most-n.ensures) (most_part _ _ c.at_most-f.ensures) (most_part _ _ c.at_most-s.ensures) (most_part _ _ c.at_most-w.ensures)
    (c.print_survey.ensures.value, c.print_survey.ensures.out_value) in record { value = whole.0; out_value = whole.1.0; words = whole.1.1 }
