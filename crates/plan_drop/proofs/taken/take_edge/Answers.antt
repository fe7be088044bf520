-- `take_edge` meets its contract: a branch on whether the edge is picked.
use Rattle.plan_drop.specs.Laws.Taken.{step_taken, step_passed}
use Rattle.std.proofs.Common.{sym, ◌∙◌}
use Rattle.plan_drop.proofs.taken.take_edge.Goals as goal

pub returns-then-is_picked : goal.returns-then-is_picked
returns-then-is_picked c =
    let args = c.args in
    step_taken _ _ _ _ (sym c.is_picked.ensures ∙ c.if-is_picked.true)
    (c.take_ends.ensures.0 ∙ rw (c.at.ensures, c.at-then-is_picked.ensures))
    (c.take_ends.ensures.1 ∙ rw (c.at.ensures, c.at-then-is_picked.ensures, c.own_word.ensures))

pub returns : goal.returns
returns c =
    step_passed _ _ _ _ _ _ (sym c.is_picked.ensures ∙ c.if-is_picked.false)
