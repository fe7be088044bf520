-- What a loop over the edges knows of the buffers, and that these hold the words of the definition.
use Rattle.std.specs.Prelude.{◌≡◌, ℕ, zero, suc, ◌+◌, ◌<◌, ◌≤◌, Bool, true, false, cond, ◌⊎◌, List, length, refl}
use Rattle.std.proofs.Common.{arith, add-one, ap, sym, ◌∙◌, inl, inr}
use Rattle.std.proofs.Math.Logic.{⊎_elim}
use Rattle.base_finite.specs.Below.{count_below, tabulate}
use Rattle.base_finite.specs.Laws.Below.{counted_true, counted_false, length_tabulate}
use Rattle.base_finite.specs.Laws.Test.{either}
use Rattle.theory_graph.specs.Component.{components}
use Rattle.base_buffer.proofs.Laws.Store.{length_remade}
use Rattle.survey_components.specs.Buffer.{relabelled, ends_joined}
use Rattle.survey_components.specs.Laws.Buffer.{components_none, components_more}
use Rattle.plan_drop.specs.Word.{own_word, turned_all, edge_taken, side_words}
use Rattle.plan_drop.specs.Taken.{taken, taken_below, EdgeStep}
use Rattle.plan_drop.specs.Laws.Word.{words_none, words_more}

-- An edge of the set.
pub step_taken : {in_set : Bool} (a b base i : ℕ) {labels words labels_after_ words_after : List ℕ} → in_set ≡ true → labels_after_ ≡ ends_joined a b labels
    → words_after ≡ edge_taken a b (own_word base i) labels words → EdgeStep in_set a b base i labels words (i + 1) labels_after_ words_after
step_taken a b base i t l w = record { index = rw (t, counted_true refl 1); labels_are = rw t l; words_are = rw t w }

-- And another.
pub step_passed : {in_set : Bool} (a b base i : ℕ) (labels words : List ℕ) → in_set ≡ false → EdgeStep in_set a b base i labels words i labels words
step_passed a b base i labels words t = record { index = omega (arith, counted_false t 1); labels_are = rw t; words_are = rw t }

module _ (N : ℕ) (a b : ℕ → ℕ) (F : ℕ → Bool) (base : ℕ) where
  pub taken_none : {labels words : List ℕ} → labels ≡ tabulate N (λ v. v) → words ≡ tabulate N (λ v. 0)
      → (labels ≡ (taken_below N a b F base 0).labels) × (words ≡ (taken_below N a b F base 0).words)
  unfolding taken_below
  taken_none h k = (h, k)

  labels_next : (e : ℕ) → (taken_below N a b F base (suc e)).labels ≡ cond (F e) (ends_joined (a e) (b e) (taken_below N a b F base e).labels) (taken_below N a b F base e).labels
  unfolding taken_below taken
  labels_next e = ⊎_elim (λ t. rw t) (λ t. rw t) (either (F e))

  words_next : (e : ℕ) → (taken_below N a b F base (suc e)).words
      ≡ cond (F e) (edge_taken (a e) (b e) (own_word base (count_below e F)) (taken_below N a b F base e).labels (taken_below N a b F base e).words) (taken_below N a b F base e).words
  unfolding taken_below taken
  words_next e = ⊎_elim (λ t. rw t) (λ t. rw t) (either (F e))

  -- One more edge, as a call leaves the buffers.
  pub taken_more : (e : ℕ) {i next : ℕ} {labels words labels_after_ words_after : List ℕ} → i ≡ count_below e F → labels ≡ (taken_below N a b F base e).labels
      → words ≡ (taken_below N a b F base e).words
      → EdgeStep (F e) (a e) (b e) base i labels words next labels_after_ words_after
      → (labels_after_ ≡ (taken_below N a b F base (e + 1)).labels) × (words_after ≡ (taken_below N a b F base (e + 1)).words)
  taken_more e {labels = labels} {words = words} index h k step = (
    step.labels_are ∙ rw (add-one e, h) (sym (labels_next e)),
    step.words_are ∙ rw (add-one e, index, h, k) (sym (words_next e)),
  )

  length_taken : (e : ℕ) → (length (taken_below N a b F base e).labels ≡ N) × (length (taken_below N a b F base e).words ≡ N)
  unfolding taken_below taken ends_joined relabelled edge_taken turned_all
  length_taken zero = (length_tabulate N (λ v. v), length_tabulate N (λ v. 0))
  length_taken (suc e) = by (either (F e)) (length_taken e)
    where
      by : (F e ≡ true) ⊎ (F e ≡ false) → (length (taken_below N a b F base e).labels ≡ N) × (length (taken_below N a b F base e).words ≡ N)
          → (length (taken_below N a b F base (suc e)).labels ≡ N) × (length (taken_below N a b F base (suc e)).words ≡ N)
      by (inl t) old = rw t (length_remade _ _ _ ∙ old.0, length_remade _ _ _ ∙ old.1)
      by (inr t) old = rw t old

  pub labels_long : (e : ℕ) {labels : List ℕ} → labels ≡ (taken_below N a b F base e).labels → length labels ≡ N
  labels_long e h = ap length h ∙ (length_taken e).0

  pub words_long : (e : ℕ) {words : List ℕ} → words ≡ (taken_below N a b F base e).words → length words ≡ N
  words_long e h = ap length h ∙ (length_taken e).1

  pub taken_end : (m e : ℕ) {words : List ℕ} → e ≤ m → m ≤ e → words ≡ (taken_below N a b F base e).words → words ≡ (taken_below N a b F base m).words
  taken_end m e h k r = let q : m ≡ e = omega arith in rw q r

  -- With ends below N the buffers hold the labels of the components, and the words.
  pub taken_words : (m : ℕ) → ((e : ℕ) → e < m → a e < N) → ((e : ℕ) → e < m → b e < N)
      → ((taken_below N a b F base m).labels ≡ tabulate N (components N a b F m)) × ((taken_below N a b F base m).words ≡ tabulate N (side_words N a b F base m))
  unfolding taken_below
  taken_words zero h k = (components_none N a b F N, words_none N a b F base N)
  taken_words (suc e) h k =
      let old = taken_words e (λ i l. h i (omega arith)) (λ i l. k i (omega arith)) in (
        rw⁻¹ (add-one e) (components_more N a b F N e (h e (omega arith)) (k e (omega arith)) old.0 (labels_next e)),
        rw⁻¹ (add-one e) (words_more N a b F base N e (h e (omega arith)) (k e (omega arith)) old.0 old.1 (words_next e)),
      )
