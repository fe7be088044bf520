-- The words that pruning goes by. An order in which the edges of F hang together gives words at once, and they are tried; where some edge of F is not
-- alone in its bit, the words are those that the edges make as they come in.
use Rattle.std.specs.Prelude.{ℕ, Bool, cond, List}
use Rattle.plan_drop.specs.Word.{are_alone}
use Rattle.plan_drop.specs.Taken.{taken_below}

-- For a forest they are cuts, whatever the guess (law `tried_words_alone`).
unfoldable pub tried_words : (N : ℕ) (guess : List ℕ) (a b : ℕ → ℕ) → (ℕ → Bool) → (base m : ℕ) → List ℕ
tried_words N guess a b F base m = cond (are_alone a b F base m guess) guess (taken_below N a b F base m).words
