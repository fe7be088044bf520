-- `paired_lows` meets its contract: one pair after the other.
use mathlib.Core.Path.{refl}
use Rattle.floor_core.specs.Laws.Number.{paired_start, paired_more, paired_end}
use Rattle.floor_core.proofs.number.paired_lows.Goals as goal

pub loop-i-init : goal.loop-i-init
loop-i-init c = paired_start _ _ _ _ c.own_lows.ensures

pub loop-i-preserved : goal.loop-i-preserved
loop-i-preserved c = paired_more _ _ _ _ _ c.loop-i.invariant refl c.at.ensures c.at-in-loop-i.ensures c.note.ensures

pub returns : goal.returns
returns c = paired_end _ _ _ _ _ _ c.loop-i.auto.i-end c.loop-i-test.false c.loop-i.invariant
