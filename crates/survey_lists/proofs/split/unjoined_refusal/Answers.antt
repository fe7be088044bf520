-- `unjoined_refusal` meets its contract: a sound survey has labels for every end, and the labels decide.
use mathlib.Core.Path.{sym, ◌∙◌}
use Rattle.survey_core.specs.Survey.{survey_with}
use Rattle.survey_components.specs.Laws.Labels.{sound_ends, long_labels, lists_by_labels}
use Rattle.survey_lists.proofs.split.unjoined_refusal.Goals as goal

pub joined_labels-labels-requires : goal.joined_labels-labels-requires
joined_labels-labels-requires c = sound_ends (survey_with _ _ _ _ _ _) c.requires

pub slice_bounds-split_list-end : goal.slice_bounds-split_list-end
slice_bounds-split_list-end c = sym (long_labels _ _ c.joined_labels-labels.ensures)

-- a list, or nothing
pub returns : goal.returns
returns c =
    c.split_list.ensures
    ∙ lists_by_labels _ _ _ _ _ _ _ _ c.requires.few c.joined_labels-labels.ensures
