-- `prune_forest` meets its contract: after each batch the marks are those of the batches below base.
use Rattle.plan_drop.specs.Laws.Judge.{below_start, below_more, below_end}
use Rattle.std.proofs.Common.{arith}
use Rattle.plan_drop.proofs.prune_forest.Goals as goal

pub loop-base-init : goal.loop-base-init
loop-base-init c = below_start _ _ _ _ c.drop_all.ensures

pub loop-base-preserved : goal.loop-base-preserved
loop-base-preserved c = below_more _ _ _ _ _ c.loop-base.invariant c.prune_batch.ensures

-- no picked edge
pub returns : goal.returns
returns c = below_end _ _ _ _ _ (omega (arith, c.count_picked-count.ensures)) c.drop_all.ensures c.loop-base.invariant

-- after the last batch
pub returns-2 : goal.returns-2
returns-2 c =
    below_end _ _ _ _ _ (omega (arith, c.count_picked-count.ensures)) c.drop_all.ensures
    (below_more _ _ _ _ _ c.loop-base.invariant c.prune_batch.ensures)
