-- `why_core::refusal` meets its contract: the stages, one after the other, come to the definition.
use mathlib.Core.Path.{sym, ◌∙◌}
use Rattle.survey_core.proofs.Laws.Refusal.{fine_survey}
use borrow.Author.Rules.{rules}
use Rattle.why_core.specs.Laws.Stages.{survey_stops, route_stops, lists_decide}
use Rattle.why_core.proofs.refusal.why_refusal.Goals as goal

-- 1 to 6 and 18
pub returns-in_default : goal.returns-in_default
returns-in_default c = survey_stops _ _ _ c.survey_refusal-unsound.ensures c.in_default.is

pub overflow_sub-groups : goal.overflow_sub-groups
overflow_sub-groups c = let some = (fine_survey _ (sym c.survey_refusal-unsound.ensures ∙ c.in-Fine.is)).some in search (rules, some)

-- 7
pub returns-then-route-groups : goal.returns-then-route-groups
returns-then-route-groups c = route_stops _ _ _ c.survey_refusal-unsound.ensures c.in-Fine.is c.if-route-groups.true

-- 8, 19, none
pub returns : goal.returns
returns c =
    lists_decide _ _ _ c.survey_refusal-unsound.ensures c.in-Fine.is _ c.if-route-groups.false c.group_refusal-apart.ensures c.track_refusal-past.ensures c.first_of.ensures
