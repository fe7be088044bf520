-- `tie_lines` meets its contract: what is left to read, to store and to count is what the whole reads, stores and counts.
use Rattle.text_merge.specs.Ties.{tie_reader, tie_lines}
use Rattle.text_merge.specs.Laws.Turn.{TiesLeft}
use Rattle.text_merge.proofs.ties.tie_lines.Given as goal

abbrev pub invariant-loop-i : goal.invariant-loop-i
invariant-loop-i l = TiesLeft (tie_reader l.text) (tie_lines l.text) l.initial.firsts l.initial.seconds 0 l.i l.next.at l.firsts l.seconds
