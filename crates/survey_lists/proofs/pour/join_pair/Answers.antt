-- `join_pair` meets its contract: the home's label takes the place of both.
use mathlib.Core.Path.{ap, ◌∙◌}
use Rattle.survey_core.specs.Lists.{lists_from}
use Rattle.survey_lists.specs.Pouring.{home}
use Rattle.survey_core.proofs.Laws.Pairs.{own_read}
use Rattle.survey_lists.proofs.Laws.Room.{joined_by_merge}
use Rattle.survey_lists.proofs.pour.join_pair.Goals as goal

pub home_at-first-requires : goal.home_at-first-requires
home_at-first-requires c = c.requires

pub returns : goal.returns
returns c =
    let args = c.args in
    joined_by_merge
    args.labels.now
    (c.home_at-first.ensures ∙ ap (home (lists_from args.groups.now args.owners.now args.others.now)) (c.at.ensures))
    c.at-second.ensures
    (own_read args.labels.now c.from.ensures c.at-z.ensures)
    c.merge.ensures
