-- `merge_call` meets its contract: what `merge` answers where so much of the group buffer is lent on.
use Rattle.survey_core.specs.Survey.{survey_with}
use Rattle.merge_rule.specs.Ties.{ties_from}
use Rattle.api_code.specs.Laws.Lending.{lent_le}
use Rattle.api_merge.specs.Laws.Call.{merge_into}
use Rattle.api_merge.proofs.merge_call.Goals as goal

pub slice_bounds-merge-end : goal.slice_bounds-merge-end
slice_bounds-merge-end c = lent_le _ _ _ c.lent_on-room.ensures

pub returns : goal.returns
returns c =
    let x = c.args in let whole = merge_into (survey_with x.groups.now x.firsts.now x.seconds.now x.weights.now x.owners.now x.others.now) (survey_with x.second_groups.now x.second_firsts.now x.second_seconds.now x.second_weights.now x.second_owners.now x.second_others.now) (ties_from x.tie_firsts.now x.tie_seconds.now) (survey_with x.out_groups.now x.out_firsts.now x.out_seconds.now x.out_weights.now x.out_owners.now x.out_others.now) x.counts.now c.lent_on-room.ensures c.merge-answer.ensures.out_others_value _ c.merge-answer.ensures.result_value c.merge_code.ensures.value c.merge_code.ensures.counts_value in record { code = whole.0; buffers = whole.1.0; counts = whole.1.1 }
