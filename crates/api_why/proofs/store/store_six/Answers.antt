-- `store_six`: one store after the first five.
use mathlib.Core.Path.{ap, ◌∙◌}
use lib.ListN.{set}
use Rattle.api_why.proofs.store.store_six.Goals as goal

pub returns : goal.returns
returns c = c.put.ensures ∙ ap (λ l. set l 5 c.args.round) c.store_five.ensures
