-- `room_refusal` meets its contract: each return by its test.
use borrow.Author.Tests.{lt-ltb, le-ltb}
use Rattle.base_limits.specs.Verdict.{refuse_if, ◌before◌}
use Rattle.merge_rule.specs.Refusal.{room_refusal}
use Rattle.merge_core.proofs.counts.room_refusal.Goals as goal

-- 7: own groups
pub returns-then-groups-vertices : goal.returns-then-groups-vertices
unfolding room_refusal refuse_if ◌before◌
returns-then-groups-vertices c = rw (lt-ltb _ _ c.if-groups-vertices.true)

-- 7: first ends
pub returns-then-firsts-edges : goal.returns-then-firsts-edges
unfolding room_refusal refuse_if ◌before◌
returns-then-firsts-edges c = rw (le-ltb _ _ c.if-groups-vertices.false, lt-ltb _ _ c.if-firsts-edges.true)

-- 7: second ends
pub returns-then-seconds-edges : goal.returns-then-seconds-edges
unfolding room_refusal refuse_if ◌before◌
returns-then-seconds-edges c = rw (le-ltb _ _ c.if-groups-vertices.false, le-ltb _ _ c.if-firsts-edges.false, lt-ltb _ _ c.if-seconds-edges.true)

-- 7: prices
pub returns-then-weights-edges : goal.returns-then-weights-edges
unfolding room_refusal refuse_if ◌before◌
returns-then-weights-edges c = rw (le-ltb _ _ c.if-groups-vertices.false, le-ltb _ _ c.if-firsts-edges.false, le-ltb _ _ c.if-seconds-edges.false, lt-ltb _ _ c.if-weights-edges.true)

-- 7: the v of the pairs
pub returns-then-owners-pairs : goal.returns-then-owners-pairs
unfolding room_refusal refuse_if ◌before◌
returns-then-owners-pairs c = rw (le-ltb _ _ c.if-groups-vertices.false, le-ltb _ _ c.if-firsts-edges.false, le-ltb _ _ c.if-seconds-edges.false, le-ltb _ _ c.if-weights-edges.false, lt-ltb _ _ c.if-owners-pairs.true)

-- 7: the g of the pairs
pub returns-then-others-pairs : goal.returns-then-others-pairs
unfolding room_refusal refuse_if ◌before◌
returns-then-others-pairs c = rw (le-ltb _ _ c.if-groups-vertices.false, le-ltb _ _ c.if-firsts-edges.false, le-ltb _ _ c.if-seconds-edges.false, le-ltb _ _ c.if-weights-edges.false, le-ltb _ _ c.if-owners-pairs.false, lt-ltb _ _ c.if-others-pairs.true)

pub returns : goal.returns
unfolding room_refusal refuse_if ◌before◌
returns c = rw (le-ltb _ _ c.if-groups-vertices.false, le-ltb _ _ c.if-firsts-edges.false, le-ltb _ _ c.if-seconds-edges.false, le-ltb _ _ c.if-weights-edges.false, le-ltb _ _ c.if-owners-pairs.false, le-ltb _ _ c.if-others-pairs.false)
