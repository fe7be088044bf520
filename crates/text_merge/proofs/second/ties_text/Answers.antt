-- `ties_text` meets its contract: the refusal of a tie line is printed, or what is merged.
use mathlib.Core.Path.{ap}
use Rattle.base_buffer.proofs.Laws.Part.{most_le}
use Rattle.format_read.specs.Answer.{number_step}
use Rattle.survey_core.specs.Survey.{survey_with}
use Rattle.text_merge.specs.Laws.Output.{printed_as, rest_is, ties_refused, count_few, ties_printed}
use borrow.Author.Rules.{rules}
use Rattle.text_merge.proofs.second.ties_text.Goals as goal

pub slice_bounds-tie_lines-count : goal.slice_bounds-tie_lines-count
slice_bounds-tie_lines-count c = let few = most_le _ _ c.at_most-start.ensures in search (rules, few)

pub slice_bounds-tie_lines-start : goal.slice_bounds-tie_lines-start
slice_bounds-tie_lines-start c = let few = most_le _ _ c.at_most-start.ensures in search (rules, few)

pub slice_bounds-merged_text-end : goal.slice_bounds-merged_text-end
unfolding number_step
slice_bounds-merged_text-end c =
    let x = c.args in let few = count_few (survey_with x.groups.now x.firsts.now x.seconds.now x.weights.now x.owners.now x.others.now) (survey_with x.second_groups.now x.second_firsts.now x.second_seconds.now x.second_weights.now x.second_owners.now x.second_others.now) x.text.now x.at (rest_is x.text.now x.at c.at_most-start.ensures) c.tie_lines.ensures.0 (ap number_step c.in-Value.is) in search (rules, few)

pub slice_bounds-merged_text-end-in-Value : goal.slice_bounds-merged_text-end-in-Value
unfolding number_step
slice_bounds-merged_text-end-in-Value c =
    let x = c.args in let few = count_few (survey_with x.groups.now x.firsts.now x.seconds.now x.weights.now x.owners.now x.others.now) (survey_with x.second_groups.now x.second_firsts.now x.second_seconds.now x.second_weights.now x.second_owners.now x.second_others.now) x.text.now x.at (rest_is x.text.now x.at c.at_most-start.ensures) c.tie_lines.ensures.0 (ap number_step c.in-Value.is) in search (rules, few)

-- a tie line is refused
pub returns-in-Refused : goal.returns-in-Refused
unfolding number_step
returns-in-Refused c =
    let x = c.args in let whole = printed_as x.out.now (ties_refused (survey_with x.groups.now x.firsts.now x.seconds.now x.weights.now x.owners.now x.others.now) (survey_with x.second_groups.now x.second_firsts.now x.second_seconds.now x.second_weights.now x.second_owners.now x.second_others.now) x.text.now x.at (rest_is x.text.now x.at c.at_most-start.ensures) c.tie_lines.ensures.0 (ap number_step c.in-Refused.is) c.moved_place.ensures) (c.print_refusal.ensures.value, c.print_refusal.ensures.out_value) in record { result_value = whole.0; out_value = whole.1 }

-- the ties
pub returns-in-Value : goal.returns-in-Value
unfolding number_step
returns-in-Value c =
    let x = c.args in let whole = printed_as x.out.now (ties_printed (survey_with x.groups.now x.firsts.now x.seconds.now x.weights.now x.owners.now x.others.now) (survey_with x.second_groups.now x.second_firsts.now x.second_seconds.now x.second_weights.now x.second_owners.now x.second_others.now) x.text.now x.at (rest_is x.text.now x.at c.at_most-start.ensures) c.tie_lines.ensures.0 (ap number_step c.in-Value.is) c.tie_lines.ensures.1 c.tie_lines.ensures.2) (c.merged_text.ensures.result_value, c.merged_text.ensures.out_value) in record { result_value = whole.0; out_value = whole.1 }
