-- `queue_leaf` meets its contract: one store, or none.
use Rattle.std.proofs.Common.{sym, ◌∙◌}
use Rattle.base_limits.specs.Limits.{max_vertices}
use Rattle.plan_drop.specs.Laws.Peel.{queued_not, queued_full, queued_next}
use Rattle.plan_drop.proofs.peel.queue_leaf.Goals as goal

-- not one edge
pub returns-then-at-ne1 : goal.returns-then-at-ne1
returns-then-at-ne1 c =
    let degree = c.at.ensures in
    queued_not max_vertices _ _ _ (λ h. c.if-at-ne1.true (degree ∙ h))

-- one edge
pub returns-then-count-lt-MAX_VERTICES : goal.returns-then-count-lt-MAX_VERTICES
returns-then-count-lt-MAX_VERTICES c =
    let degree = c.at.ensures in
    queued_next max_vertices _ _ _ (sym degree ∙ c.if-at-ne1.false) c.if-count-lt-MAX_VERTICES.true

-- no room
pub returns : goal.returns
returns c = queued_full max_vertices _ _ _ c.if-count-lt-MAX_VERTICES.false
