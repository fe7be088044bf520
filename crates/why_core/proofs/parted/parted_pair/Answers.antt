-- `parted_pair` meets its contract: the labels in the buffer are those of the tracks marked 2.
use mathlib.Core.Path.{sym}
use Rattle.survey_components.specs.Laws.Labels.{length_labels}
use Rattle.why_core.specs.Laws.PartedFound.{pair_found}
use Rattle.why_core.proofs.parted.parted_pair.Goals as goal

pub slice_bounds-first_apart-end : goal.slice_bounds-first_apart-end
slice_bounds-first_apart-end c = sym (length_labels _ _ _ c.set_labels-labels.ensures)

pub returns : goal.returns
returns c = pair_found _ _ c.parted_list-group.ensures c.set_labels-labels.ensures c.first_member-smaller.ensures c.first_apart-larger.ensures
