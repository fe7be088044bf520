-- `take_leaf` meets its contract: no change, or the edge goes from its other end.
use Rattle.std.proofs.Common.{sym, ◌∙◌}
use Rattle.base_limits.specs.Limits.{max_vertices}
use Rattle.plan_drop.specs.Laws.Peel.{leaf_kept, leaf_gone_law}
use Rattle.plan_drop.proofs.peel.take_leaf.Goals as goal

-- the edge is gone
pub returns-then-at-ne1 : goal.returns-then-at-ne1
returns-then-at-ne1 c =
    let degree = c.at.ensures in
    leaf_kept max_vertices _ _ c.at-v.ensures (λ h. c.if-at-ne1.true (degree ∙ h))

-- it is there
pub returns : goal.returns
returns c =
    let args = c.args in
    let degree = c.at.ensures in
    let other = c.at-w.ensures in
    let mark = c.at-mark.ensures in
    leaf_gone_law max_vertices _ _ c.at-v.ensures (sym degree ∙ c.if-at-ne1.false) other mark c.turn_end.ensures c.queue_leaf.ensures
