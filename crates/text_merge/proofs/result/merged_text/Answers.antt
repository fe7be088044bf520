-- `merged_text` meets its contract: what is merged is printed (`merged_printed`).
use Rattle.survey_core.specs.Survey.{survey_with}
use Rattle.merge_rule.specs.Ties.{ties_from}
use Rattle.text_merge.specs.Laws.Output.{merged_printed}
use Rattle.text_merge.proofs.result.merged_text.Goals as goal

pub returns : goal.returns
returns c =
    let x = c.args in let whole = merged_printed (survey_with x.groups.now x.firsts.now x.seconds.now x.weights.now x.owners.now x.others.now) (survey_with x.second_groups.now x.second_firsts.now x.second_seconds.now x.second_weights.now x.second_owners.now x.second_others.now) (ties_from x.tie_firsts.now x.tie_seconds.now) x.out.now _ c.merge-answer.ensures.result_value c.merge-answer.ensures.out_others_value c.merge-answer.ensures.promises (c.print_merged.ensures.result_value, c.print_merged.ensures.out_value) in record { result_value = whole.0; out_value = whole.1 }
