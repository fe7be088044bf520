-- `turn` meets its contract: one column more at a time.
use Rattle.format_table.proofs.Laws.Turning.{Storing}
use Rattle.format_table.proofs.turn.Given as goal

abbrev pub invariant-loop-j : goal.invariant-loop-j
invariant-loop-j l = Storing l.rows l.columns l.table l.initial.out l.j l.out
