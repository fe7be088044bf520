-- `judge_edge` meets its contract: each return by the law of its case.
use Rattle.plan_drop.specs.Laws.Needed.{mark_passed, mark_kept, mark_dropped}
use Rattle.std.proofs.Common.{sym, ◌∙◌}
use Rattle.plan_drop.proofs.judge.judge_edge.Goals as goal

pub returns-then-is_needed : goal.returns-then-is_needed
returns-then-is_needed c =
    rw c.put.ensures (mark_kept _ _ _ (sym c.is_picked.ensures ∙ c.if-is_picked.true) (sym c.is_needed.ensures ∙ c.if-is_needed.true))

pub returns-then-is_picked : goal.returns-then-is_picked
returns-then-is_picked c =
    mark_dropped _ _ _ (sym c.is_picked.ensures ∙ c.if-is_picked.true) (sym c.is_needed.ensures ∙ c.if-is_needed.false)

pub returns : goal.returns
returns c =
    mark_passed _ _ _ (sym c.is_picked.ensures ∙ c.if-is_picked.false)
