-- `store_four` meets its contract: four stores, one after the other.
use Rattle.closed_core.specs.Laws.Call.{stored_four}
use Rattle.closed_core.proofs.row.store_four.Goals as goal

pub returns : goal.returns
returns c =
    let a = c.args in
    stored_four a.res.now a.at a.one a.two a.three a.four c.put.ensures c.put-2.ensures c.put-3.ensures c.put-4.ensures
