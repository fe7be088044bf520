-- `find_round` meets its contract: before each turn the labels are those of r picks, and none of them links the ends.
use Rattle.why_core.specs.Laws.Replay.{PicksReplayed}
use Rattle.why_core.proofs.round.find_round.Given as goal

abbrev pub invariant-loop-r : goal.invariant-loop-r
invariant-loop-r l = PicksReplayed l.firsts l.seconds l.order l.e l.r l.labels
