-- `print_plan_call` meets its contract: what `print_plan` answers where so much of the buffer is lent on.
use Rattle.api_code.specs.Laws.Lending.{lent_le}
use Rattle.api_print.specs.Laws.Call.{plan_into}
use Rattle.api_print.proofs.plan.print_plan_call.Goals as goal

pub slice_bounds-print_plan-end : goal.slice_bounds-print_plan-end
slice_bounds-print_plan-end c = lent_le _ _ _ c.lent_on-room.ensures

pub returns : goal.returns
returns c =
    let a = c.args in
    let whole = plan_into a.terminals a.cost a.bound a.rounds a.marks.now a.records.now a.out.now a.counts.now c.lent_on-room.ensures
    c.print_plan-answer.ensures.value
    c.print_plan-answer.ensures.out_value
    c.printed_code.ensures.value
    c.printed_code.ensures.counts_value in record { code = whole.0; out = whole.1.0; counts = whole.1.1 }

pub shape_of-out : goal.shape_of-out
shape_of-out c = c.out-1.given.1

pub shape_of-counts : goal.shape_of-counts
shape_of-counts c = c.counts-1.given
