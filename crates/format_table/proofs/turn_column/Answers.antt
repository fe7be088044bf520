-- `turn_column` meets its contract: one byte more at a time, within the table and the buffer (`places`).
use mathlib.Core.Path.{refl}
use borrow.Author.Rules.{rules}
use Rattle.format_table.proofs.Laws.Turning.{column_start, column_more, column_end, places}
use Rattle.format_table.proofs.turn_column.Goals as goal

pub loop-i-init : goal.loop-i-init
loop-i-init c = column_start _ _ _ _ _

pub overflow_mul-out : goal.overflow_mul-out
overflow_mul-out c = let p = places _ _ _ _ _ c.requires c.loop-i.invariant c.loop-i-test.true in search (rules, p.row)

pub overflow_add-out : goal.overflow_add-out
overflow_add-out c = let p = places _ _ _ _ _ c.requires c.loop-i.invariant c.loop-i-test.true in search (rules, p.from)

pub bounds-table-i : goal.bounds-table-i
bounds-table-i c = let p = places _ _ _ _ _ c.requires c.loop-i.invariant c.loop-i-test.true in search (rules, p.from)

pub bounds-out-j : goal.bounds-out-j
bounds-out-j c = let p = places _ _ _ _ _ c.requires c.loop-i.invariant c.loop-i-test.true in search (rules, p.to)

pub loop-i-preserved : goal.loop-i-preserved
loop-i-preserved c = column_more _ _ _ _ _ c.loop-i.invariant c.loop-i-test.true refl refl

pub returns : goal.returns
returns c = column_end _ _ _ _ _ c.loop-i.invariant c.loop-i-test.false

pub shape_of-out : goal.shape_of-out
shape_of-out c = c.loop-i.invariant.long
