-- `format_plan::members::members` meets its contract: what is left to read and to store is what the whole reads and stores.
use lib.ListN.{length}
use Rattle.format_plan.specs.Lines.{member_reader, members_at, put_member}
use Rattle.format_read.proofs.Laws.Items.{ItemsLeft}
use Rattle.format_plan.proofs.members.members.Given as goal

abbrev pub invariant-loop-i : goal.invariant-loop-i
invariant-loop-i l = ItemsLeft (member_reader l.text) put_member (members_at l.text l.initial.next.at) l.initial.part (length l.text) l.low l.i l.next.at l.part
