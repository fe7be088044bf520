-- `argument_count` ends, since each turn leaves fewer to count.
use Rattle.std.proofs.Common.{◌-◌, ◌≤◌}
use Rattle.program_io.proofs.argument_count.Given as goal

abbrev pub invariant-loop-count : goal.invariant-loop-count
invariant-loop-count g l = l.count ≤ l.most

abbrev pub decreases-loop-count : goal.decreases-loop-count
decreases-loop-count g l = l.most - l.count
