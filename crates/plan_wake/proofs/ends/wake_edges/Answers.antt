-- `wake_edges` meets its contract: one edge more at each turn.
use Rattle.plan_wake.specs.Laws.Loops.{waking_start, waking_more, waking_end}
use Rattle.plan_wake.proofs.ends.wake_edges.Goals as goal

pub loop-e-init : goal.loop-e-init
loop-e-init c = waking_start _ _ _ _ _

pub loop-e-preserved : goal.loop-e-preserved
loop-e-preserved c = waking_more c.loop-e.invariant c.loop-e-test.true c.wake_edge.ensures

pub returns : goal.returns
returns c = waking_end c.loop-e.invariant c.loop-e-test.false
