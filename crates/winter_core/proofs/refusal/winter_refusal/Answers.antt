-- `winter_refusal` meets its contract: the stages, one after the other, come to the definition.
use mathlib.Core.List.{[]}
use Rattle.survey_core.specs.Survey.{survey_with}
use Rattle.winter_core.proofs.Laws.Call.{given_stops, short_stops, groups_decide}
use Rattle.winter_core.proofs.refusal.winter_refusal.Goals as goal

-- 1 to 6, 18, 24
pub returns-in_default : goal.returns-in_default
returns-in_default c =
    let a = c.args in
    let s = survey_with a.groups.now a.firsts.now a.seconds.now a.weights.now a.owners.now a.others.now in
    given_stops s a.strengths.now a.room c.given_refusal-given.ensures c.in_default.is

-- 7
pub returns-then-room-firsts : goal.returns-then-room-firsts
returns-then-room-firsts c =
    let a = c.args in
    let s = survey_with a.groups.now a.firsts.now a.seconds.now a.weights.now a.owners.now a.others.now in
    short_stops s a.strengths.now a.room c.given_refusal-given.ensures c.in-Fine.is c.if-room-firsts.true

-- 8
pub returns : goal.returns
returns c =
    let a = c.args in
    let s = survey_with a.groups.now a.firsts.now a.seconds.now a.weights.now a.owners.now a.others.now in
    groups_decide s a.strengths.now a.room c.given_refusal-given.ensures c.in-Fine.is c.if-room-firsts.false [] c.group_refusal.ensures
