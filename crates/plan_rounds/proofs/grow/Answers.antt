-- `grow` meets its contract: a survey that is not refused is sound.
use Rattle.std.proofs.Common.{sym, refl, ◌∙◌}
use Rattle.base_limits.specs.Verdict.{written}
use Rattle.survey_core.proofs.Laws.Refusal.{fine_survey}
use Rattle.plan_rounds.specs.Laws.Rounds.{grown_start}
use Rattle.plan_rounds.proofs.grow.Goals as goal

-- refused
pub returns-in_default : goal.returns-in_default
unfolding written
returns-in_default c = rw (sym c.survey_refusal-found.ensures ∙ c.in_default.is) (grown_start _)

pub grow_rounds-requires : goal.grow_rounds-requires
grow_rounds-requires c =
    record { survey_sound = fine_survey _ (sym c.survey_refusal-found.ensures ∙ c.in-Fine.is); values_value = (refl, refl, refl) }

-- sound
pub returns : goal.returns
unfolding written
returns c = rw (sym c.survey_refusal-found.ensures ∙ c.in-Fine.is) c.grow_rounds.ensures
