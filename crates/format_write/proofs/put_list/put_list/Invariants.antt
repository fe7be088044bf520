-- `put_list`: what is written so far are the first numbers.
use lib.ListN.{take}
use Rattle.format_write.specs.Text.{listed}
use Rattle.format_write.specs.Wrote.{Wrote}
use Rattle.format_write.proofs.put_list.put_list.Given as goal

abbrev pub invariant-loop-i : goal.invariant-loop-i
invariant-loop-i l = Wrote l.initial.out l.at (listed (take l.i l.numbers)) l.out l.next
