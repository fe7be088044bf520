-- `edge_of` meets its contract: below m as it is, from m on less by m.
use Rattle.floor_core.specs.Laws.Arcs.{edge_low, edge_high}
use Rattle.floor_core.proofs.arcs.edge_of.Goals as goal

pub returns-then-a-firsts : goal.returns-then-a-firsts
returns-then-a-firsts c = edge_low _ _ c.if-a-firsts.true

pub returns : goal.returns
returns c = edge_high _ _ c.if-a-firsts.false
