-- `prune_batch` meets its contract: judging by the words is judging by need.
use Rattle.plan_drop.specs.Laws.Judge.{batch_is}
use Rattle.plan_drop.proofs.prune_batch.Goals as goal

pub returns : goal.returns
returns c =
    batch_is _ _ _ _ c.requires.0 c.args.base _ _ c.requires.1 c.side_words-words.ensures c.judge_edges.ensures
