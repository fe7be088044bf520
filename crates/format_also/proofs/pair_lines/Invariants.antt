-- `format_also::pair_lines` meets its contract: what is left to read, to store and to count is what the whole reads, stores and counts.
use Rattle.format_also.specs.Pair.{also_reader, also_at}
use Rattle.format_also.specs.Laws.Turn.{PairsLeft}
use Rattle.format_also.proofs.pair_lines.Given as goal

abbrev pub invariant-loop-i : goal.invariant-loop-i
invariant-loop-i l =
    PairsLeft (also_reader l.text l.groups l.room) (also_at l.text l.groups l.room l.initial.next.at) l.initial.owners l.initial.others l.low l.i l.next.at l.owners l.others
