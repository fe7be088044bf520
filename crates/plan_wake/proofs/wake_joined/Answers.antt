-- `wake_joined` meets its contract: the one component after the other.
use mathlib.Core.Path.{refl}
use Rattle.plan_search.specs.Tables.{tables_from}
use Rattle.plan_wake.specs.Wake.{notes_from}
use Rattle.plan_wake.specs.Laws.Loops.{joined_woken}
use Rattle.plan_wake.proofs.wake_joined.Goals as goal

pub returns : goal.returns
returns c =
    let args = c.args in
    let tables = tables_from args.firsts.now args.seconds.now args.weights.now args.labels.now args.loads.now args.flags.now in
    joined_woken tables args.time args.n args.e (notes_from args.keys.now args.floors.now) c.at.ensures refl c.at-x.ensures c.at-2.ensures refl c.at-y.ensures c.wake_vertex.ensures c.wake_vertex-2.ensures
