-- `wake_edge` meets its contract: the key is stored and the floor lowered, or nothing is.
use Rattle.plan_wake.specs.Wake.{ends_at, notes_from, woken_key}
use Rattle.plan_wake.specs.Laws.Loops.{edge_woken, edge_left}
use Rattle.plan_wake.proofs.ends.wake_edge.Goals as goal

pub returns-then-ends_at : goal.returns-then-ends_at
returns-then-ends_at c =
    let args = c.args in
    edge_woken (ends_at args.firsts.now args.seconds.now args.c) (woken_key args.weights.now args.behind) (notes_from args.keys.now args.floors.now) args.e c.ends_at.ensures c.if-ends_at.true c.woken_key-key.ensures c.put.ensures c.lower_floor.ensures

pub returns-else-ends_at : goal.returns-else-ends_at
returns-else-ends_at c =
    let args = c.args in
    edge_left (ends_at args.firsts.now args.seconds.now args.c) (woken_key args.weights.now args.behind) (notes_from args.keys.now args.floors.now) args.e c.ends_at.ensures c.if-ends_at.false
