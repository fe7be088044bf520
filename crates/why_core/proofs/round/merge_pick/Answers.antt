-- `merge_pick` meets its contract: the first end's label takes the place of both.
use Rattle.survey_lists.proofs.Laws.Room.{joined_by_merge}
use Rattle.why_core.proofs.round.merge_pick.Goals as goal

pub returns : goal.returns
returns c = joined_by_merge c.args.labels.now c.at-first.ensures c.at-second.ensures c.at-z.ensures c.merge.ensures
