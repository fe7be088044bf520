-- `load` meets its contract: one arc at the rim after the other.
use Rattle.floor_core.specs.Laws.Rim.{loads_start, loads_more, loads_end}
use Rattle.floor_core.proofs.cut.load.Goals as goal

pub loop-j-init : goal.loop-j-init
loop-j-init c = loads_start _ _ _ _

pub loop-j-preserved : goal.loop-j-preserved
loop-j-preserved c = loads_more _ _ _ _ c.requires c.loop-j.invariant c.loop-j-test.true c.at-a.ensures c.at.ensures c.less-rest.ensures c.put.ensures

pub returns : goal.returns
returns c = loads_end _ _ _ _ c.requires c.loop-j.invariant c.loop-j-test.false c.loop-j.auto.j-end
