-- `count_members` meets its contract: one vertex after the other.
use Rattle.floor_core.specs.Tables.{Counts}
use Rattle.floor_core.proofs.shares.count_members.Given as goal

abbrev pub invariant-loop-l : goal.invariant-loop-l
invariant-loop-l l = Counts l.groups l.l-index l.counts
