-- `store_four` meets its contract: four stores, one after the other.
use Rattle.api_plan.specs.Laws.FloorCall.{stored_four}
use Rattle.api_plan.proofs.floor.store_four.Goals as goal

pub returns : goal.returns
returns c =
    let a = c.args in
    stored_four a.counts.now a.floor a.terminals a.cost a.bound c.put.ensures c.put-2.ensures c.put-3.ensures c.put-4.ensures
