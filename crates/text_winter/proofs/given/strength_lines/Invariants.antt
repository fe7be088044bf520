-- `strength_lines` meets its contract: what is left to read and to store is what the whole reads and stores.
use Rattle.format_read.proofs.Laws.Items.{ItemsLeft}
use Rattle.text_winter.specs.Given.{given_reader, given_turns, givens_at, put_strength}
use Rattle.text_winter.proofs.given.strength_lines.Given as goal

abbrev pub invariant-loop-i : goal.invariant-loop-i
invariant-loop-i l =
    ItemsLeft (given_reader l.text) put_strength (givens_at l.text l.initial.next.at) l.initial.strengths given_turns l.low l._i l.next.at l.strengths
