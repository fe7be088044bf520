-- `chain` meets its contract: one arc after the other.
use Rattle.floor_core.specs.Laws.Chain.{chained_none, chained_end}
use Rattle.floor_core.proofs.chain.chain.Goals as goal

pub loop-a-init : goal.loop-a-init
loop-a-init c = chained_none _ _ _ c.requires.tops_value

pub loop-a-preserved : goal.loop-a-preserved
loop-a-preserved c = c.chain_arc.ensures

pub returns : goal.returns
returns c = chained_end _ _ _ _ c.loop-a.auto.a-end c.loop-a-test.false c.requires.arcs_value c.loop-a.invariant
