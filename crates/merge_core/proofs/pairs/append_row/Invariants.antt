-- `append_row` meets its contract: one more flag in each turn (`row_turn`).
use Rattle.merge_core.specs.Laws.Pairs.{RowAt}
use Rattle.merge_core.proofs.pairs.append_row.Given as goal

abbrev pub invariant-loop-g : goal.invariant-loop-g
invariant-loop-g l = RowAt l.row l.w l.initial.pairs l.count l.g l.pairs l.next
