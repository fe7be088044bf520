-- `wake_ends` meets its contract: part after part.
use Rattle.std.proofs.Common.{◌*◌, min, length}
use Rattle.plan_wake.specs.Wake.{ends_at, notes_from, woken_key, wake_edges}
use Rattle.plan_wake.specs.Laws.Loops.{WakingParts}
use Rattle.plan_wake.proofs.ends.wake_ends.Given as goal

abbrev pub invariant-loop-part : goal.invariant-loop-part
invariant-loop-part l = WakingParts (ends_at l.firsts l.seconds l.c) (woken_key l.weights l.behind) (notes_from l.initial.keys l.initial.floors) (min (length l.firsts) (length l.seconds)) (wake_edges * l.part) l.keys l.floors
