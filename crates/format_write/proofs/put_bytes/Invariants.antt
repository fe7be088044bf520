-- `put_bytes`: what is written so far are the first bytes.
use lib.ListN.{take}
use Rattle.format_write.specs.Wrote.{Wrote}
use Rattle.format_write.proofs.put_bytes.Given as goal

abbrev pub invariant-loop-b : goal.invariant-loop-b
invariant-loop-b l = Wrote l.initial.out l.at (take l.b-index l.bytes) l.out l.next
