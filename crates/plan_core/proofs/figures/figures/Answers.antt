-- `figures` meets its contract: a refusal stops it with nothing written (`figures_refused`), and otherwise the survey is sound.
use mathlib.Core.Path.{sym, ◌∙◌}
use Rattle.survey_core.proofs.Laws.Refusal.{fine_survey}
use Rattle.plan_rule.specs.Figures.{figured_outcome}
use Rattle.plan_core.specs.Laws.Figures.{survey_refuses, figures_refused}
use Rattle.plan_core.proofs.figures.figures.Goals as goal

-- 1 to 6, 18
pub returns-in-Refused : goal.returns-in-Refused
unfolding figured_outcome
returns-in-Refused c = let whole = figures_refused _ _ (survey_refuses _ c.survey_refusal-found.ensures c.in-Refused.is) in record { result_value = whole.0; marks_value = whole.1 }

pub sound_figures-requires : goal.sound_figures-requires
sound_figures-requires c = fine_survey _ (sym c.survey_refusal-found.ensures ∙ c.in_default.is)
