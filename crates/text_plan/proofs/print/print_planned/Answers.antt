-- `print_planned` meets its contract: an arm for each answer.
use native.Mathlib.Omega.{arith}
use mathlib.Core.Path.{ap}
use borrow.Author.Rules.{rules}
use Rattle.plan_rule.specs.Answer.{planned_outcome}
use Rattle.base_buffer.proofs.Laws.Part.{most_le}
use Rattle.text_plan.specs.Laws.Planned.{held_le, refused_printed, finished_printed}
use Rattle.text_plan.proofs.print.print_planned.Goals as goal

pub slice_bounds-print_plan-end : goal.slice_bounds-print_plan-end
slice_bounds-print_plan-end c = let few = most_le _ _ c.at_most-tracks.ensures in search (rules, few)

pub slice_bounds-print_plan-end-in-Finished : goal.slice_bounds-print_plan-end-in-Finished
slice_bounds-print_plan-end-in-Finished c = let few = held_le _ _ c.record_bytes-size.ensures in search (rules, few)

-- the refusal
pub returns-in-Refused : goal.returns-in-Refused
unfolding planned_outcome
returns-in-Refused c =
    let whole = refused_printed _ _ _ _ (ap planned_outcome c.in-Refused.is) (c.print_refusal.ensures.value, c.print_refusal.ensures.out_value) (omega arith) (omega arith) in record { result_value = whole.0; out_value = whole.1.0; words = whole.1.1 }

-- the plan
pub returns-in-Finished : goal.returns-in-Finished
unfolding planned_outcome
returns-in-Finished c =
    let whole = finished_printed _ _ _ _ (ap planned_outcome c.in-Finished.is) c.at_most-tracks.ensures c.record_bytes-size.ensures (c.print_plan.ensures.value, c.print_plan.ensures.out_value)
    (omega arith) (omega arith) (omega arith) (omega arith) in record { result_value = whole.0; out_value = whole.1.0; words = whole.1.1 }
