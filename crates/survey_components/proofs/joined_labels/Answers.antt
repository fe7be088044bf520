-- `joined_labels` meets its contract: there is a label for every end.
use mathlib.Core.Path.{refl, ◌∙◌}
use mathlib.Core.List.{[]}
use native.Mathlib.Omega.{arith}
use Rattle.base_limits.specs.Limits.{max_vertices}
use Rattle.base_buffer.proofs.Laws.Store.{remade_table}
use Rattle.survey_core.specs.Survey.{survey_from}
use Rattle.survey_components.specs.Laws.Labels.{front_fits, front_labelled}
use Rattle.survey_components.proofs.joined_labels.Goals as goal

pub slice_bounds-labels-end : goal.slice_bounds-labels-end
slice_bounds-labels-end c = let few = c.requires.few in omega arith

pub label_components-requires : goal.label_components-requires
label_components-requires c =
    let numbered = c.own_labels.ensures ∙ remade_table (λ v x. v) max_vertices _ (λ v. v) refl (λ v b. refl) in
    front_fits (survey_from _ _ _ []) c.requires numbered

pub returns : goal.returns
returns c =
    let numbered = c.own_labels.ensures ∙ remade_table (λ v x. v) max_vertices _ (λ v. v) refl (λ v b. refl) in
    front_labelled (survey_from _ _ _ []) c.requires numbered _
    c.label_components.ensures
