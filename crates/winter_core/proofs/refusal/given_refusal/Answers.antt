-- `given_refusal` meets its contract: the survey's refusals, then those of the strengths.
use Rattle.survey_core.specs.Survey.{survey_with}
use Rattle.winter_core.proofs.Laws.Call.{unsound_stops, strengths_decide}
use Rattle.winter_core.proofs.refusal.given_refusal.Goals as goal

-- 1 to 6, 18
pub returns-in_default : goal.returns-in_default
returns-in_default c =
    let a = c.args in
    let s = survey_with a.groups.now a.firsts.now a.seconds.now a.weights.now a.owners.now a.others.now in
    unsound_stops s a.strengths.now c.survey_refusal-unsound.ensures c.in_default.is

-- 24
pub returns : goal.returns
returns c =
    let a = c.args in
    let s = survey_with a.groups.now a.firsts.now a.seconds.now a.weights.now a.owners.now a.others.now in
    strengths_decide s a.strengths.now c.survey_refusal-unsound.ensures c.in-Fine.is c.strengths_refusal.ensures
