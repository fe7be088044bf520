-- `merge_text` meets its contract: the refusal of the first survey is printed, or what follows it is read.
use Rattle.text_merge.specs.Laws.Front.{front_said, front_unread}
use Rattle.text_merge.specs.Laws.Output.{printed_as, first_refused, first_read}
use borrow.Author.Rules.{rules}
use Rattle.text_merge.proofs.merge_text.Goals as goal

pub slice_bounds-second_text-end : goal.slice_bounds-second_text-end
slice_bounds-second_text-end c = let said = front_said c.read_front.ensures c.in-Survey.is in let few = said.vertices_few in search (rules, few)

pub slice_bounds-second_text-end-in-Survey : goal.slice_bounds-second_text-end-in-Survey
slice_bounds-second_text-end-in-Survey c = let said = front_said c.read_front.ensures c.in-Survey.is in let few = said.edges_few in search (rules, few)

pub slice_bounds-second_text-end-in-Survey-2 : goal.slice_bounds-second_text-end-in-Survey-2
slice_bounds-second_text-end-in-Survey-2 c = let said = front_said c.read_front.ensures c.in-Survey.is in let few = said.edges_few in search (rules, few)

pub slice_bounds-second_text-end-in-Survey-3 : goal.slice_bounds-second_text-end-in-Survey-3
slice_bounds-second_text-end-in-Survey-3 c =
    let said = front_said c.read_front.ensures c.in-Survey.is in let few = said.edges_few in search (rules, few)

pub slice_bounds-second_text-end-in-Survey-4 : goal.slice_bounds-second_text-end-in-Survey-4
slice_bounds-second_text-end-in-Survey-4 c =
    let said = front_said c.read_front.ensures c.in-Survey.is in let few = said.pairs_few in search (rules, few)

pub slice_bounds-second_text-end-in-Survey-5 : goal.slice_bounds-second_text-end-in-Survey-5
slice_bounds-second_text-end-in-Survey-5 c =
    let said = front_said c.read_front.ensures c.in-Survey.is in let few = said.pairs_few in search (rules, few)

-- the first survey is refused
pub returns-in-Refused : goal.returns-in-Refused
returns-in-Refused c =
    let x = c.args in let whole = printed_as x.out.now (first_refused x.text.now (front_unread _ _ _ _ _ _ _ c.read_front.ensures c.in-Refused.is)) (c.print_refusal.ensures.value, c.print_refusal.ensures.out_value) in record { value = whole.0; out_value = whole.1 }

-- what follows it
pub returns-in-Survey : goal.returns-in-Survey
returns-in-Survey c =
    let x = c.args in let said = front_said c.read_front.ensures c.in-Survey.is in let whole = printed_as x.out.now (first_read x.text.now said) (c.second_text.ensures.result_value, c.second_text.ensures.out_value) in record { value = whole.0; out_value = whole.1 }
