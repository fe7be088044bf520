-- `set_labels` meets its contract: a refused survey has no labels, and of a sound one every end is a vertex.
use mathlib.Core.Path.{◌∙◌}
use Rattle.base_limits.specs.Laws.Verdict.{written_refused, written_fine}
use Rattle.survey_core.specs.Survey.{survey_from}
use Rattle.survey_components.specs.Laws.Forest.{ends_below}
use Rattle.survey_components.specs.Laws.Labels.{labels_plain}
use Rattle.survey_components.proofs.set_labels.Goals as goal

-- 1 to 6
pub returns-in_default : goal.returns-in_default
returns-in_default c = written_refused _ _ c.survey_refusal-found.ensures c.in_default.is

pub joined_labels-requires : goal.joined_labels-requires
joined_labels-requires c = ends_below (survey_from _ _ _ _) c.survey_refusal-found.ensures c.in-Fine.is

-- the components
pub returns : goal.returns
returns c =
    c.joined_labels.ensures ∙ labels_plain _ _ _ _ _
    ∙ written_fine _ _ c.survey_refusal-found.ensures c.in-Fine.is
