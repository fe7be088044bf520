-- `are_uneven` meets its contract: one test after the other.
use Rattle.api_handset.proofs.Laws.Lengths.{uneven_seconds, uneven_weights, uneven_pairs}
use Rattle.api_handset.proofs.lengths.are_uneven.Goals as goal

pub returns-then-edges-seconds : goal.returns-then-edges-seconds
returns-then-edges-seconds c = uneven_seconds _ _ _ _ _ c.if-edges-seconds.true

pub returns-then-edges-weights : goal.returns-then-edges-weights
returns-then-edges-weights c = uneven_weights _ _ _ _ _ c.if-edges-seconds.false c.if-edges-weights.true

pub returns : goal.returns
returns c = uneven_pairs _ _ _ _ _ c.if-edges-seconds.false c.if-edges-weights.false
