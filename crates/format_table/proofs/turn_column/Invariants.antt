-- `turn_column` meets its contract: one byte more at a time, within the table and the buffer (`places`).
use Rattle.format_table.proofs.Laws.Turning.{StoringColumn}
use Rattle.format_table.proofs.turn_column.Given as goal

abbrev pub invariant-loop-i : goal.invariant-loop-i
invariant-loop-i l = StoringColumn l.rows l.columns l.j l.table l.initial.out l.i l.out
