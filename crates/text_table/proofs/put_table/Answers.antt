-- `put_table` meets its contract: one byte more at a time, where there is room for all.
use mathlib.Core.Path.{refl}
use borrow.Author.Rules.{rules}
use Rattle.text_table.specs.Laws.TrackTable.{storing_start, table_fits, storing_more, storing_end, table_short}
use Rattle.text_table.proofs.put_table.Goals as goal

-- 7
pub returns-then-out-firsts : goal.returns-then-out-firsts
returns-then-out-firsts c = let whole = table_short _ _ _ _ c.if-out-firsts.true in record { value = whole.0; out_value = whole.1 }

pub overflow_mul-long : goal.overflow_mul-long
overflow_mul-long c =
    let a = c.args in
    let room = table_fits a.firsts.now a.seconds.now a.weights.now a.out.now c.if-out-firsts.false in
    search (rules, room)

pub loop-k-init : goal.loop-k-init
loop-k-init c = storing_start _ _ _ _

pub loop-k-preserved : goal.loop-k-preserved
loop-k-preserved c =
    storing_more _ _ _ _ c.if-out-firsts.false c.loop-k.invariant c.loop-k-test.true c.track_byte.ensures c.put.ensures

-- the table
pub returns : goal.returns
returns c = let whole = storing_end _ _ _ _ c.if-out-firsts.false c.loop-k.invariant refl c.loop-k-test.false in record { value = whole.0; out_value = whole.1 }

pub shape_of-out : goal.shape_of-out
shape_of-out c = c.loop-k.invariant.long
