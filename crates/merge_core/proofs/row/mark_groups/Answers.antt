-- `mark_groups` meets its contract: the pairs, then the own group.
use Rattle.survey_core.specs.Lists.{lists_from}
use Rattle.merge_core.specs.Laws.Row.{groups_marked}
use Rattle.merge_core.proofs.row.mark_groups.Goals as goal

pub returns : goal.returns
returns c = groups_marked (lists_from c.args.groups.now c.args.owners.now c.args.others.now) _ _ c.mark_pairs.ensures c.at.ensures c.from.ensures c.put.ensures
