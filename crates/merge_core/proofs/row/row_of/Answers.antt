-- `row_of` meets its contract: the groups of both, but for the own one and 0.
use mathlib.Core.Path.{sym}
use Rattle.survey_core.specs.Lists.{lists_from}
use Rattle.merge_core.specs.Laws.Row.{row_found, one_long, two_long, three_long}
use Rattle.merge_core.proofs.row.row_of.Goals as goal

pub slice_bounds-mark_groups-end-2 : goal.slice_bounds-mark_groups-end-2
slice_bounds-mark_groups-end-2 c = sym (one_long _ c.mark_groups.ensures)

pub slice_bounds-put-end : goal.slice_bounds-put-end
slice_bounds-put-end c = sym (two_long _ _ c.mark_groups.ensures c.mark_groups-2.ensures)

pub slice_bounds-put-end-2 : goal.slice_bounds-put-end-2
slice_bounds-put-end-2 c = sym (three_long _ _ _ c.mark_groups.ensures c.mark_groups-2.ensures c.put.ensures)

pub returns : goal.returns
returns c =
    row_found (lists_from c.args.groups.now c.args.owners.now c.args.others.now) (lists_from c.args.second_groups.now c.args.second_owners.now c.args.second_others.now) _ _ c.mark_groups.ensures c.mark_groups-2.ensures c.own_of.ensures c.from.ensures c.put.ensures c.put-2.ensures
