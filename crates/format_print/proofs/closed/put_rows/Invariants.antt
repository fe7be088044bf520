-- `put_rows`: what is written so far are the lines of the first i tracks.
use Rattle.format_write.specs.Wrote.{Wrote}
use Rattle.format_write.specs.Text.{text_below}
use Rattle.format_print.specs.RowText.{row_line}
use Rattle.format_print.proofs.closed.put_rows.Given as goal

abbrev pub invariant-loop-i : goal.invariant-loop-i
invariant-loop-i l = Wrote l.initial.out l.at (text_below l.i (row_line l.tracks l.res)) l.out l.next
