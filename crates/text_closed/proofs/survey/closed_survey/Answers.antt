-- `closed_survey` meets its contract: the refusal is printed (`stopped_lines`), or the rows (`planned_lines`).
use Rattle.survey_core.specs.Survey.{survey_with}
use Rattle.text_closed.specs.Laws.Output.{printed_as, stopped_lines, planned_lines}
use Rattle.text_closed.proofs.survey.closed_survey.Goals as goal

-- 1 to 6, 18, 7
pub returns-in-Refused : goal.returns-in-Refused
returns-in-Refused c =
    let a = c.args in
    let s = survey_with a.groups.now a.firsts.now a.seconds.now a.weights.now a.owners.now a.others.now in
    let whole = printed_as a.out.now (stopped_lines s a.tracks.now c.closed-found.ensures.result_value c.in-Refused.is) (c.print_refusal.ensures.value, c.print_refusal.ensures.out_value) in record { result_value = whole.0; out_value = whole.1 }

-- a row for each track
pub returns-in-Fine : goal.returns-in-Fine
returns-in-Fine c =
    let a = c.args in
    let s = survey_with a.groups.now a.firsts.now a.seconds.now a.weights.now a.owners.now a.others.now in
    let whole = printed_as a.out.now (planned_lines s a.tracks.now c.closed-found.ensures.result_value c.in-Fine.is c.closed-found.ensures.res_value) (c.print_rows.ensures.value, c.print_rows.ensures.out_value) in record { result_value = whole.0; out_value = whole.1 }
