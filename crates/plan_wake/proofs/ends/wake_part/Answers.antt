-- `wake_part` meets its contract: a part with c at no end has no edge to wake.
use Rattle.plan_wake.specs.Wake.{notes_from, woken_key}
use Rattle.plan_wake.specs.Laws.Loops.{part_left}
use Rattle.plan_wake.proofs.ends.wake_part.Goals as goal

-- some end
pub returns-then-found-gt0 : goal.returns-then-found-gt0
returns-then-found-gt0 c = c.wake_edges.ensures

-- none
pub returns-else-found-gt0 : goal.returns-else-found-gt0
returns-else-found-gt0 c =
    part_left c.args.firsts.now c.args.seconds.now (woken_key c.args.weights.now c.args.behind) c.args.from c.args.to c.args.c (notes_from c.args.keys.now c.args.floors.now) c.requires.to_in_bounds c.requires.to_in_bounds_2 c.has_end.ensures c.has_end-2.ensures c.if-found-gt0.false
