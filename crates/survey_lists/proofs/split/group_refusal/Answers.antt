-- `group_refusal` meets its contract: a survey that is not refused is sound, and its lists decide.
use mathlib.Core.Path.{sym, ◌∙◌}
use Rattle.base_limits.specs.Laws.Verdict.{passed_on, goes_on_law}
use Rattle.survey_core.proofs.Laws.Refusal.{fine_survey}
use Rattle.survey_lists.proofs.split.group_refusal.Goals as goal

-- 1 to 6 and 18
pub returns-in_default : goal.returns-in_default
returns-in_default c = passed_on c.survey_refusal-found.ensures c.in_default.is _

pub unjoined_refusal-requires : goal.unjoined_refusal-requires
unjoined_refusal-requires c = fine_survey _ (sym c.survey_refusal-found.ensures ∙ c.in-Fine.is)

-- a list, or nothing
pub returns : goal.returns
returns c = goes_on_law c.survey_refusal-found.ensures c.in-Fine.is c.unjoined_refusal.ensures
