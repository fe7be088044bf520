-- `store_five` meets its contract: two stores after the first three.
use mathlib.Core.Path.{ap, ◌∙◌}
use lib.ListN.{set}
use Rattle.api_code.proofs.store.store_five.Goals as goal

pub returns : goal.returns
returns c =
    let a = c.args in
    c.put-2.ensures
    ∙ ap (λ l. set l 4 a.duals) (c.put.ensures ∙ ap (λ l. set l 3 a.rounds) c.store_three.ensures)
