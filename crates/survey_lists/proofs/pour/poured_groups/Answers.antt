-- `poured_groups` meets its contract: it stores at rising places.
use mathlib.Core.Path.{ap, sym, ◌∙◌}
use lib.ListN.{length}
use Rattle.base_finite.specs.Laws.Below.{length_tabulate}
use Rattle.base_limits.specs.Limits.{max_vertices, group_numbers}
use Rattle.survey_lists.proofs.Laws.Room.{length_room, filled_start, filled_turn, filled_end}
use Rattle.survey_lists.proofs.pour.poured_groups.Goals as goal

pub slice_bounds-label_lists-end : goal.slice_bounds-label_lists-end
slice_bounds-label_lists-end c = sym (ap length c.homes-housed.ensures ∙ length_tabulate max_vertices _)

pub label_lists-labels-requires : goal.label_lists-labels-requires
label_lists-labels-requires c = c.homes-housed.ensures

pub loop-v-init : goal.loop-v-init
loop-v-init c = filled_start _ _

pub slice_bounds-put-end : goal.slice_bounds-put-end
slice_bounds-put-end c = sym (ap length c.loop-v.invariant.made ∙ length_room _ _)

pub slice_bounds-poured_group-end : goal.slice_bounds-poured_group-end
slice_bounds-poured_group-end c = sym (ap length c.homes-housed.ensures ∙ length_tabulate max_vertices _)

pub slice_bounds-poured_group-end-in-loop-v : goal.slice_bounds-poured_group-end-in-loop-v
slice_bounds-poured_group-end-in-loop-v c = sym (ap length c.label_lists-labels.ensures ∙ length_tabulate group_numbers _)

pub poured_group-requires : goal.poured_group-requires
poured_group-requires c = record { homes_value = c.homes-housed.ensures; labels_value = c.label_lists-labels.ensures }

pub loop-v-preserved : goal.loop-v-preserved
loop-v-preserved c = filled_turn _ _ c.loop-v.invariant c.loop-v-test.true c.poured_group.ensures c.put.ensures

pub returns : goal.returns
returns c = filled_end _ _ c.loop-v.invariant c.loop-v-test.false
