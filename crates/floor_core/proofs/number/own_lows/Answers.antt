-- `own_lows` meets its contract: one vertex after the other.
use mathlib.Core.Path.{refl}
use Rattle.floor_core.specs.Laws.Number.{own_start, own_more, own_end}
use Rattle.floor_core.proofs.number.own_lows.Goals as goal

pub loop-v-init : goal.loop-v-init
loop-v-init c = own_start _ _ c.requires

pub loop-v-preserved : goal.loop-v-preserved
loop-v-preserved c = own_more _ _ _ c.loop-v.invariant c.at.ensures refl c.note.ensures

pub returns : goal.returns
returns c = own_end _ _ _ _ c.loop-v.auto.v-end c.loop-v-test.false c.loop-v.invariant
