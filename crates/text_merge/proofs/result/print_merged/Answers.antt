-- `print_merged` meets its contract: an arm for each answer.
use mathlib.Core.Path.{ap}
use Rattle.base_buffer.proofs.Laws.Part.{most_le, most_part}
use Rattle.survey_core.specs.Survey.{survey_with}
use Rattle.merge_rule.specs.Refusal.{merged_outcome}
use Rattle.text_merge.specs.Laws.Output.{refused_printed, survey_printed_law}
use borrow.Author.Rules.{rules}
use Rattle.text_merge.proofs.result.print_merged.Goals as goal

pub slice_bounds-print_survey-end : goal.slice_bounds-print_survey-end
slice_bounds-print_survey-end c = let few = most_le _ _ c.at_most-n.ensures in search (rules, few)

pub slice_bounds-print_survey-end-in-Finished : goal.slice_bounds-print_survey-end-in-Finished
slice_bounds-print_survey-end-in-Finished c = let few = most_le _ _ c.at_most-f.ensures in search (rules, few)

pub slice_bounds-print_survey-end-in-Finished-2 : goal.slice_bounds-print_survey-end-in-Finished-2
slice_bounds-print_survey-end-in-Finished-2 c = let few = most_le _ _ c.at_most-s.ensures in search (rules, few)

pub slice_bounds-print_survey-end-in-Finished-3 : goal.slice_bounds-print_survey-end-in-Finished-3
slice_bounds-print_survey-end-in-Finished-3 c = let few = most_le _ _ c.at_most-w.ensures in search (rules, few)

pub slice_bounds-print_survey-end-in-Finished-4 : goal.slice_bounds-print_survey-end-in-Finished-4
slice_bounds-print_survey-end-in-Finished-4 c = let few = most_le _ _ c.at_most-o.ensures in search (rules, few)

pub slice_bounds-print_survey-end-in-Finished-5 : goal.slice_bounds-print_survey-end-in-Finished-5
slice_bounds-print_survey-end-in-Finished-5 c = let few = most_le _ _ c.at_most-x.ensures in search (rules, few)

-- the refusal
pub returns-in-Refused : goal.returns-in-Refused
unfolding merged_outcome
returns-in-Refused c = let whole = refused_printed (survey_with c.args.groups.now c.args.firsts.now c.args.seconds.now c.args.weights.now c.args.owners.now c.args.others.now) c.args.out.now c.args.answer (ap merged_outcome c.in-Refused.is) (c.print_refusal.ensures.value, c.print_refusal.ensures.out_value) in record { result_value = whole.0; out_value = whole.1 }

-- the survey
pub returns-in-Finished : goal.returns-in-Finished
unfolding merged_outcome
returns-in-Finished c =
    let whole = survey_printed_law (survey_with c.args.groups.now c.args.firsts.now c.args.seconds.now c.args.weights.now c.args.owners.now c.args.others.now) c.args.out.now c.args.answer _ (ap merged_outcome c.in-Finished.is) (most_part _ _ c.at_most-n.ensures) (most_part _ _ c.at_most-f.ensures) (most_part _ _ c.at_most-s.ensures) (most_part _ _ c.at_most-w.ensures) (most_part _ _ c.at_most-o.ensures) (most_part _ _ c.at_most-x.ensures) (c.print_survey.ensures.value, c.print_survey.ensures.out_value) in record { result_value = whole.0; out_value = whole.1 }
