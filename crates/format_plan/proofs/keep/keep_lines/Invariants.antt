-- `format_plan::keep::keep_lines` meets its contract: what is left to read and to store is what the whole reads and stores.
use lib.ListN.{length}
use Rattle.format_plan.specs.Lines.{keep_reader, kept_at, put_mark}
use Rattle.format_read.proofs.Laws.Items.{ItemsLeft}
use Rattle.format_plan.proofs.keep.keep_lines.Given as goal

abbrev pub invariant-loop-i : goal.invariant-loop-i
invariant-loop-i l = ItemsLeft (keep_reader l.text l.edges) put_mark (kept_at l.text l.edges l.initial.next.at) l.initial.marks (length l.text) l.low l.i l.next.at l.marks
