-- `format_plan::duals::dual_lines` meets its contract: what is left to read and to store is what the whole reads and stores.
use lib.ListN.{length}
use Rattle.format_plan.specs.Lines.{dual_reader, duals_at, put_dual}
use Rattle.format_read.proofs.Laws.Items.{ItemsLeft}
use Rattle.format_plan.proofs.duals.dual_lines.Given as goal

abbrev pub invariant-loop-i : goal.invariant-loop-i
invariant-loop-i l = ItemsLeft (dual_reader l.text) put_dual (duals_at l.text l.initial.next.at) l.initial.records (length l.text) l.i l.i l.next.at l.records
