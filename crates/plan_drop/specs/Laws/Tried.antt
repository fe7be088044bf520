-- The words that pruning goes by: what calls leave, and that for a forest each edge is alone in its bit.
use Rattle.std.specs.Prelude.{◌≡◌, ℕ, Bool, true, false, List}
use Rattle.std.proofs.Common.{◌∙◌}
use Rattle.std.proofs.Math.Logic.{⊎_elim}
use Rattle.base_finite.specs.Laws.Test.{either}
use Rattle.theory_graph.specs.Path.{Forest}
use Rattle.plan_drop.specs.Word.{Alone, are_alone, CutEndsBelow}
use Rattle.plan_drop.specs.Taken.{taken_below}
use Rattle.plan_drop.specs.Tried.{tried_words}
use Rattle.plan_drop.specs.Laws.Alone.{tried_alone, taken_alone}

module _ (N : ℕ) (guess : List ℕ) (a b : ℕ → ℕ) (F : ℕ → Bool) (base m : ℕ) {words : List ℕ} where
  -- The guess passes, and it fails.
  pub tried_passes : words ≡ guess → are_alone a b F base m words ≡ true → words ≡ tried_words N guess a b F base m
  unfolding tried_words
  tried_passes g t = g ∙ rw (rw g at t)

  pub tried_fails : {taken : List ℕ} → words ≡ guess → are_alone a b F base m words ≡ false → taken ≡ (taken_below N a b F base m).words
      → taken ≡ tried_words N guess a b F base m
  unfolding tried_words
  tried_fails g t h = h ∙ rw (rw g at t)

  pub tried_words_alone : CutEndsBelow N a b m → Forest a b F → words ≡ tried_words N guess a b F base m → Alone a b F base m words
  unfolding tried_words
  tried_words_alone ends forest h =
      ⊎_elim
      (λ (t : are_alone a b F base m guess ≡ true). rw (h, t) (tried_alone a b F base _ m t))
      (λ (t : are_alone a b F base m guess ≡ false). taken_alone N a b F base m ends forest (h ∙ rw t))
      (either (are_alone a b F base m guess))
