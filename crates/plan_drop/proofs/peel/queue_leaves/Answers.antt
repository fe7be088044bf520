-- `queue_leaves` meets its contract: after v vertices the order is that of the definition.
use Rattle.std.proofs.Common.{sym}
use Rattle.base_limits.specs.Limits.{max_vertices}
use Rattle.plan_drop.specs.Laws.Peel.{leaves_none, leaves_more, leaves_end}
use Rattle.plan_drop.proofs.peel.queue_leaves.Goals as goal

pub loop-v-init : goal.loop-v-init
loop-v-init c = sym (leaves_none max_vertices _ _)

pub loop-v-preserved : goal.loop-v-preserved
loop-v-preserved c = leaves_more max_vertices _ _ _ c.loop-v.invariant c.queue_leaf-count.ensures

pub returns : goal.returns
returns c = leaves_end max_vertices _ _ _ _ c.loop-v.auto.v-end c.loop-v-test.false c.loop-v.invariant
