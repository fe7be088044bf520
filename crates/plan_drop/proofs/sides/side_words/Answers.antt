-- `side_words` meets its contract: a branch on whether the guess passes.
use Rattle.std.proofs.Common.{sym, ◌∙◌}
use Rattle.base_limits.specs.Limits.{max_vertices}
use Rattle.plan_drop.specs.Laws.Tried.{tried_passes, tried_fails}
use Rattle.plan_drop.proofs.sides.side_words.Goals as goal

-- the guess
pub returns-then-is_alone : goal.returns-then-is_alone
returns-then-is_alone c = tried_passes max_vertices _ _ _ _ _ _ c.hung_words-words.ensures (sym c.is_alone.ensures ∙ c.if-is_alone.true)

-- edge by edge
pub returns : goal.returns
returns c =
    tried_fails max_vertices _ _ _ _ _ _ c.hung_words-words.ensures (sym c.is_alone.ensures ∙ c.if-is_alone.false) c.taken_words.ensures
