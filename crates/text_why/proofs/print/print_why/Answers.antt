-- `print_why` meets its contract: an arm for each answer.
use native.Mathlib.Omega.{arith}
use mathlib.Core.Path.{refl, ap}
use borrow.Author.Rules.{rules}
use Rattle.why_rule.specs.Answer.{why_outcome}
use Rattle.base_buffer.proofs.Laws.Part.{most_le, most_part}
use Rattle.text_why.specs.Laws.WhyAnswer.{unasked_printed, reason_printed}
use Rattle.text_why.proofs.print.print_why.Goals as goal

pub slice_bounds-print_reason-end : goal.slice_bounds-print_reason-end
slice_bounds-print_reason-end c = let few = most_le _ _ c.at_most-size.ensures in search (rules, few)

-- kept
pub returns-in-Kept : goal.returns-in-Kept
unfolding why_outcome
returns-in-Kept c =
    let whole = reason_printed _ _ _ (ap why_outcome c.in-Kept.is) (most_part _ _ c.at_most-size.ensures) (c.print_reason.ensures.value, c.print_reason.ensures.out_value)
    (record { kind_fits = omega arith; group_fits = omega arith; low_fits = omega arith; high_fits = omega arith; round_fits = omega arith }) in record { value = whole.0; out_value = whole.1.0; words = whole.1.1 }

-- dropped
pub returns-in-Dropped : goal.returns-in-Dropped
unfolding why_outcome
returns-in-Dropped c =
    let whole = reason_printed _ _ _ (ap why_outcome c.in-Dropped.is) refl (c.print_reason-in-Dropped.ensures.value, c.print_reason-in-Dropped.ensures.out_value)
    (record { kind_fits = omega arith; group_fits = omega arith; low_fits = omega arith; high_fits = omega arith; round_fits = omega arith }) in record { value = whole.0; out_value = whole.1.0; words = whole.1.1 }

-- not picked
pub returns-in-Passed : goal.returns-in-Passed
unfolding why_outcome
returns-in-Passed c =
    let whole = reason_printed _ _ _ (ap why_outcome c.in-Passed.is) refl (c.print_reason-in-Passed.ensures.value, c.print_reason-in-Passed.ensures.out_value)
    (record { kind_fits = omega arith; group_fits = omega arith; low_fits = omega arith; high_fits = omega arith; round_fits = omega arith }) in record { value = whole.0; out_value = whole.1.0; words = whole.1.1 }

-- the refusal
pub returns-in-Refused : goal.returns-in-Refused
unfolding why_outcome
returns-in-Refused c =
    let whole = unasked_printed _ _ _ (ap why_outcome c.in-Refused.is) (c.print_refusal.ensures.value, c.print_refusal.ensures.out_value) (omega arith) (omega arith) in record { value = whole.0; out_value = whole.1.0; words = whole.1.1 }
