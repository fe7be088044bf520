-- `write_counts` meets its contract: one count after the other, where all have room.
use Rattle.api_handset.proofs.Laws.Words.{Writing}
use Rattle.api_handset.proofs.counts.write_counts.Given as goal

abbrev pub invariant-loop-i : goal.invariant-loop-i
invariant-loop-i l = Writing l.counts l.initial.res l.i l.res
