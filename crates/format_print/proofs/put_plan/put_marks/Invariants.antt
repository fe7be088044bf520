-- `put_marks`: what is written so far are the lines of the tracks below e.
use lib.ListN.{get_or}
use Rattle.format_write.specs.Text.{text_below, kept_line}
use Rattle.format_write.specs.Wrote.{Wrote}
use Rattle.format_print.proofs.put_plan.put_marks.Given as goal

abbrev pub invariant-loop-e : goal.invariant-loop-e
invariant-loop-e l = Wrote l.initial.out l.at (text_below l.e (λ i. kept_line (get_or l.marks i 0) i)) l.out l.next
