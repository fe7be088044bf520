-- `short_winter` meets its contract: 1 to 6, 18 and 24 as one number, else 7.
use Rattle.survey_core.specs.Survey.{survey_with}
use Rattle.api_plan.specs.Laws.WinterCall.{short_refused, short_seven}
use Rattle.api_plan.proofs.winter.short_winter.Goals as goal

pub returns-in-Refused : goal.returns-in-Refused
returns-in-Refused c =
    let a = c.args in
    let s = survey_with a.groups.now a.firsts.now a.seconds.now a.weights.now a.owners.now a.others.now in
    short_refused s a.strengths.now c.given_refusal-found.ensures _ _ c.in-Refused.is c.code.ensures

pub returns-in-Fine : goal.returns-in-Fine
returns-in-Fine c =
    let a = c.args in
    let s = survey_with a.groups.now a.firsts.now a.seconds.now a.weights.now a.owners.now a.others.now in
    short_seven s a.strengths.now c.given_refusal-found.ensures c.in-Fine.is
