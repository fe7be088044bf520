-- `floor_survey` meets its contract: the refusal is printed (`stopped_lines`), or the three lines (`floored_lines`).
use Rattle.survey_core.specs.Survey.{survey_with}
use Rattle.text_floor.proofs.Laws.Gap.{floor_le_cost, answered_small}
use Rattle.text_floor.proofs.Laws.Output.{printed_as, told_refused, told_finished, stopped_lines, floored_lines}
use Rattle.text_floor.proofs.survey.floor_survey.Goals as goal

pub print_floor-requires : goal.print_floor-requires
print_floor-requires c =
    let a = c.args in
    let s = survey_with a.groups.now a.firsts.now a.seconds.now a.weights.now a.owners.now a.others.now in
    let told = told_finished c.in-Finished.is in
    record { floor_le_cost = floor_le_cost s c.floor-found.ensures.promises told; cost_le_max_cost = answered_small s c.floor-found.ensures.result_value c.floor-found.ensures.promises told }

-- 1 to 6, 18, 8
pub returns-in-Refused : goal.returns-in-Refused
returns-in-Refused c =
    let a = c.args in
    let s = survey_with a.groups.now a.firsts.now a.seconds.now a.weights.now a.owners.now a.others.now in
    let whole = printed_as a.out.now (stopped_lines s c.floor-found.ensures.result_value (told_refused c.in-Refused.is)) (c.print_refusal.ensures.value, c.print_refusal.ensures.out_value) in record { result_value = whole.0; out_value = whole.1 }

-- the floor, the cost and the gap
pub returns-in-Finished : goal.returns-in-Finished
returns-in-Finished c =
    let a = c.args in
    let s = survey_with a.groups.now a.firsts.now a.seconds.now a.weights.now a.owners.now a.others.now in
    let whole = printed_as a.out.now (floored_lines s c.floor-found.ensures.result_value (told_finished c.in-Finished.is)) (c.print_floor.ensures.value, c.print_floor.ensures.out_value) in record { result_value = whole.0; out_value = whole.1 }
