-- `parted` meets its contract: before each turn the bits are those of the vertices below v.
use Rattle.plan_drop.specs.Laws.Parted.{parted_none, parted_more, parted_end}
use Rattle.plan_drop.proofs.bits.parted.Goals as goal

pub loop-v-init : goal.loop-v-init
loop-v-init c = parted_none _ _

pub loop-v-preserved : goal.loop-v-preserved
loop-v-preserved c = parted_more _ _ _ c.loop-v.invariant c.at-mate.ensures c.at.ensures c.at-in-loop-v.ensures

pub returns : goal.returns
returns c = parted_end _ _ _ _ c.loop-v.auto.v-end c.loop-v-test.false c.loop-v.invariant
