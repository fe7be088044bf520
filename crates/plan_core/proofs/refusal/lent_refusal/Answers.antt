-- `lent_refusal` meets its contract: the stages, one after the other, come to the definition.
use mathlib.Core.Path.{sym, ◌∙◌}
use Rattle.base_limits.specs.Laws.Verdict.{passed_on, goes_on_law}
use Rattle.survey_core.specs.Survey.{edge_count, vertex_count}
use Rattle.survey_core.proofs.Laws.Refusal.{fine_survey}
use Rattle.plan_core.specs.Planned.{lent_refusal}
use Rattle.plan_core.proofs.refusal.lent_refusal.Goals as goal

-- 1 to 6 and 18
pub returns-in_default : goal.returns-in_default
unfolding lent_refusal
returns-in_default c = passed_on c.survey_refusal-unsound.ensures c.in_default.is _

pub room_refusal-requires : goal.room_refusal-requires
room_refusal-requires c = (fine_survey _ (sym c.survey_refusal-unsound.ensures ∙ c.in-Fine.is)).few

-- 7
pub returns : goal.returns
unfolding lent_refusal edge_count vertex_count
returns c = goes_on_law c.survey_refusal-unsound.ensures c.in-Fine.is c.room_refusal.ensures
