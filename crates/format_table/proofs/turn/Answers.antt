-- `turn` meets its contract: one column more at a time.
use Rattle.format_table.proofs.Laws.Turning.{storing_start, storing_holds, storing_more, storing_end}
use Rattle.format_table.proofs.turn.Goals as goal

pub loop-j-init : goal.loop-j-init
loop-j-init c = storing_start _ _ _ _

pub turn_column-requires : goal.turn_column-requires
turn_column-requires c =
    storing_holds _ _ _ _ c.requires c.loop-j.invariant c.loop-j-test.true

pub loop-j-preserved : goal.loop-j-preserved
loop-j-preserved c =
    storing_more _ _ _ _ c.loop-j.invariant c.loop-j-test.true c.turn_column.ensures

pub returns : goal.returns
returns c = storing_end _ _ _ _ c.requires c.loop-j.invariant c.loop-j-test.false

pub shape_of-out : goal.shape_of-out
shape_of-out c = c.loop-j.invariant.long
