-- `store_two` meets its contract: two stores, one after the other.
use mathlib.Core.Path.{ap, ◌∙◌}
use lib.ListN.{set}
use Rattle.api_code.proofs.store.store_two.Goals as goal

pub returns : goal.returns
returns c =
    let a = c.args in
    c.put-2.ensures ∙ ap (λ l. set l 1 a.two) c.put.ensures
