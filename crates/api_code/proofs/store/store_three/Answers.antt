-- `store_three` meets its contract: three stores, one after the other.
use mathlib.Core.Path.{ap, ◌∙◌}
use lib.ListN.{set}
use Rattle.api_code.proofs.store.store_three.Goals as goal

pub returns : goal.returns
returns c =
    let a = c.args in
    c.put-3.ensures
    ∙ ap (λ l. set l 2 a.bound) (c.put-2.ensures ∙ ap (λ l. set l 1 a.cost) c.put.ensures)
