-- `second_text` meets its contract: the refusal of the second survey is printed, or the ties behind it are read.
use Rattle.base_buffer.proofs.Laws.Part.{most_le}
use Rattle.survey_core.specs.Survey.{survey_with}
use Rattle.text_merge.specs.Laws.Front.{front_said, front_unread}
use Rattle.text_merge.specs.Laws.Output.{printed_as, rest_is, second_refused, second_read}
use borrow.Author.Rules.{rules}
use Rattle.text_merge.proofs.second.second_text.Goals as goal

pub slice_bounds-read_front-count : goal.slice_bounds-read_front-count
slice_bounds-read_front-count c = let few = most_le _ _ c.at_most-start.ensures in search (rules, few)

pub slice_bounds-read_front-start : goal.slice_bounds-read_front-start
slice_bounds-read_front-start c = let few = most_le _ _ c.at_most-start.ensures in search (rules, few)

pub slice_bounds-ties_text-end : goal.slice_bounds-ties_text-end
slice_bounds-ties_text-end c = let said = front_said c.read_front.ensures c.in-Survey.is in let few = said.vertices_few in search (rules, few)

pub slice_bounds-ties_text-end-in-Survey : goal.slice_bounds-ties_text-end-in-Survey
slice_bounds-ties_text-end-in-Survey c = let said = front_said c.read_front.ensures c.in-Survey.is in let few = said.edges_few in search (rules, few)

pub slice_bounds-ties_text-end-in-Survey-2 : goal.slice_bounds-ties_text-end-in-Survey-2
slice_bounds-ties_text-end-in-Survey-2 c = let said = front_said c.read_front.ensures c.in-Survey.is in let few = said.edges_few in search (rules, few)

pub slice_bounds-ties_text-end-in-Survey-3 : goal.slice_bounds-ties_text-end-in-Survey-3
slice_bounds-ties_text-end-in-Survey-3 c =
    let said = front_said c.read_front.ensures c.in-Survey.is in let few = said.edges_few in search (rules, few)

pub slice_bounds-ties_text-end-in-Survey-4 : goal.slice_bounds-ties_text-end-in-Survey-4
slice_bounds-ties_text-end-in-Survey-4 c =
    let said = front_said c.read_front.ensures c.in-Survey.is in let few = said.pairs_few in search (rules, few)

pub slice_bounds-ties_text-end-in-Survey-5 : goal.slice_bounds-ties_text-end-in-Survey-5
slice_bounds-ties_text-end-in-Survey-5 c =
    let said = front_said c.read_front.ensures c.in-Survey.is in let few = said.pairs_few in search (rules, few)

-- the second survey is refused
pub returns-in-Refused : goal.returns-in-Refused
returns-in-Refused c =
    let x = c.args in let whole = printed_as x.out.now (second_refused (survey_with x.groups.now x.firsts.now x.seconds.now x.weights.now x.owners.now x.others.now) x.text.now x.at (rest_is x.text.now x.at c.at_most-start.ensures) (front_unread _ _ _ _ _ _ _ c.read_front.ensures c.in-Refused.is) c.moved_place.ensures) (c.print_refusal.ensures.value, c.print_refusal.ensures.out_value) in record { result_value = whole.0; out_value = whole.1 }

-- the ties
pub returns-in-Survey : goal.returns-in-Survey
returns-in-Survey c =
    let x = c.args in let said = front_said c.read_front.ensures c.in-Survey.is in let whole = printed_as x.out.now (second_read (survey_with x.groups.now x.firsts.now x.seconds.now x.weights.now x.owners.now x.others.now) x.text.now x.at (rest_is x.text.now x.at c.at_most-start.ensures) said c.reach.ensures) (c.ties_text.ensures.result_value, c.ties_text.ensures.out_value) in record { result_value = whole.0; out_value = whole.1 }
