-- `wake_vertex` meets its contract: no edge is woken at a component that is active or no vertex.
use mathlib.Core.Path.{refl}
use Rattle.plan_wake.specs.Wake.{notes_from}
use Rattle.plan_wake.specs.Laws.Loops.{vertex_past, vertex_active, vertex_idle}
use Rattle.plan_wake.proofs.wake_vertex.Goals as goal

-- no vertex's number
pub returns-then-n-i : goal.returns-then-n-i
returns-then-n-i c =
    let args = c.args in
    vertex_past args.firsts.now args.seconds.now args.weights.now args.loads.now args.flags.now args.time args.n args.c (notes_from args.keys.now args.floors.now) refl c.if-n-i.true

-- active
pub returns-then-at-eq1 : goal.returns-then-at-eq1
returns-then-at-eq1 c =
    let args = c.args in
    vertex_active args.firsts.now args.seconds.now args.weights.now args.loads.now args.flags.now args.time args.n args.c (notes_from args.keys.now args.floors.now) refl c.at.ensures c.if-at-eq1.true

pub returns : goal.returns
returns c =
    let args = c.args in
    vertex_idle args.firsts.now args.seconds.now args.weights.now args.loads.now args.flags.now args.time args.n args.c (notes_from args.keys.now args.floors.now) refl c.if-n-i.false c.at.ensures c.if-at-eq1.false c.behind_by-behind.ensures c.wake_ends.ensures
