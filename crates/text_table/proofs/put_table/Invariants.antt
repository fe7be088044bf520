-- `put_table` meets its contract: one byte more at a time, where there is room for all.
use Rattle.text_table.specs.Laws.TrackTable.{StoringTable}
use Rattle.text_table.proofs.put_table.Given as goal

abbrev pub invariant-loop-k : goal.invariant-loop-k
invariant-loop-k l = StoringTable l.firsts l.seconds l.weights l.initial.out l.k l.out
