-- `lower_floor` meets its contract: the key is stored where it is lower.
use Rattle.plan_wake.specs.Laws.Wake.{lowered_falls, lowered_stays}
use Rattle.plan_wake.proofs.key.lower_floor.Goals as goal

pub returns-then-key-at : goal.returns-then-key-at
returns-then-key-at c =
    let args = c.args in
    lowered_falls args.floors.now args.b args.key c.at.ensures c.if-key-at.true c.put.ensures

pub returns-else-key-at : goal.returns-else-key-at
returns-else-key-at c =
    let args = c.args in
    lowered_stays args.floors.now args.b args.key c.at.ensures c.if-key-at.false
