-- `put_lines` meets its contract: what is written so far are the lines of the tracks below e.
use Prim.Native.Nat.{◌≤◌}
use lib.ListN.{length, get_or}
use Rattle.format_write.specs.Text.{text_below}
use Rattle.format_write.specs.Wrote.{Wrote}
use Rattle.text_winter.specs.Output.{copies_line}
use Rattle.text_winter.proofs.print.put_lines.Given as goal

abbrev pub invariant-loop-e : goal.invariant-loop-e
invariant-loop-e l =
    (l.e ≤ length l.copies) × Wrote l.initial.out l.at (text_below l.e (λ e. copies_line (get_or l.copies e 0) e)) l.out l.next
