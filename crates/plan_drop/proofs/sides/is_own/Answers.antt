-- `is_own` meets its contract: a branch on whether the edge is picked.
use Rattle.std.proofs.Common.{sym, ◌∙◌}
use Rattle.plan_drop.specs.Laws.Alone.{own_word_read, own_passed}
use Rattle.plan_drop.proofs.sides.is_own.Goals as goal

-- picked
pub returns-then-is_picked : goal.returns-then-is_picked
returns-then-is_picked c =
    own_word_read _ _ c.args.words.now (sym c.is_picked.ensures ∙ c.if-is_picked.true)
    c.at-a.ensures c.at-b.ensures
    c.at.ensures c.at-then-is_picked.ensures c.own_word.ensures

-- not picked
pub returns : goal.returns
returns c = own_passed _ (sym c.is_picked.ensures ∙ c.if-is_picked.false)
