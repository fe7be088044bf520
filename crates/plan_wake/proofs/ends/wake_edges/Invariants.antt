-- `wake_edges` meets its contract: one edge more at each turn.
use Rattle.plan_wake.specs.Wake.{ends_at, notes_from, woken_key}
use Rattle.plan_wake.specs.Laws.Loops.{Waking}
use Rattle.plan_wake.proofs.ends.wake_edges.Given as goal

abbrev pub invariant-loop-e : goal.invariant-loop-e
invariant-loop-e l = Waking (ends_at l.firsts l.seconds l.c) (woken_key l.weights l.behind) (notes_from l.initial.keys l.initial.floors) l.from l.to l.e l.keys l.floors
