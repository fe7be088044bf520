-- `put_duals`: what is written so far are the lines of the records before i.
use Rattle.format_record.specs.Record.{record_at}
use Rattle.format_write.specs.Text.{text_below, dual_line}
use Rattle.format_write.specs.Wrote.{Wrote}
use Rattle.format_print.proofs.put_plan.put_duals.Given as goal

abbrev pub invariant-loop-i : goal.invariant-loop-i
invariant-loop-i l = Wrote l.initial.out l.at (text_below l.i (λ k. dual_line (record_at l.records k))) l.out l.next
