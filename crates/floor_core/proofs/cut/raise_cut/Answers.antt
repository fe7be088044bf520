-- `raise_cut` meets its contract: a walk finds the cut, and the arcs at its rim bear it.
use Rattle.floor_core.specs.Laws.Rim.{walk_begins, cut_inside, cut_outside}
use Rattle.floor_core.proofs.cut.raise_cut.Goals as goal

pub walk-requires : goal.walk-requires
walk-requires c = walk_begins c.args.firsts.now c.args.seconds.now c.args.tops.now c.args.links.now c.args.n c.args.root c.args.v c.args.cap c.requires.ends c.requires.chained c.requires.v_lt_n c.args.rests.now _ c.put.ensures c.put-2.ensures

pub returns-in_err-arcs : goal.returns-in_err-arcs
returns-in_err-arcs c = rw c.from_residual.ensures (cut_inside c.args.firsts.now c.args.seconds.now c.args.tops.now c.args.links.now c.args.n c.args.root c.args.v c.args.cap c.requires.ends c.requires.chained c.requires.v_lt_n c.args.rests.now c.put.ensures c.put-2.ensures c.walk.ensures c.in_err-arcs.was)

pub returns : goal.returns
returns c = cut_outside c.args.firsts.now c.args.seconds.now c.args.tops.now c.args.links.now c.args.n c.args.root c.args.v c.args.cap c.requires.ends c.requires.chained c.requires.v_lt_n c.args.rests.now c.put.ensures c.put-2.ensures c.walk.ensures c.in_ok-arcs.was c.narrow-found.ensures c.load.ensures
