-- Laws of what a walk asks at a vertex.
use Rattle.std.specs.Prelude.{ℕ, ◌<◌, ◌≤◌, ◌≡◌, Bool, true, false, ◌&&◌, not, List, length, get_or, eqb, ltb}
use Rattle.std.proofs.Common.{arith, sym, ◌∙◌}
use borrow.Author.Tests.{eqb-true, eq-eqb, lt-ltb, ltb-true, not-true}
use Rattle.base_finite.specs.Laws.Test.{and_left, and_right, and_both, not_true_false}
use Rattle.survey_components.specs.Labels.{picked_in}
use Rattle.why_core.specs.Visit.{is_unvisited}

-- ---- edges

-- An edge that is not of the forest is at no vertex of it.
pub not_of_forest : (kept : List ℕ) (e : ℕ) (t : Bool) {r : Bool} → r ≡ picked_in kept e → not r ≡ true → false ≡ (picked_in kept e && t)
not_of_forest kept e t {r} is h = rw (sym is ∙ not-true r h)

-- ---- visiting

module _ (l : List ℕ) (v : ℕ) where
  pub free_below : is_unvisited l v ≡ true → v < length l
  unfolding is_unvisited
  free_below h = ltb-true v (length l) (and_left (ltb v (length l)) (eqb (get_or l v 0) 0) h)

  pub free_zero : is_unvisited l v ≡ true → get_or l v 0 ≡ 0
  unfolding is_unvisited
  free_zero h = eqb-true (get_or l v 0) 0 (and_right (ltb v (length l)) (eqb (get_or l v 0) 0) h)

  pub free_is : v < length l → get_or l v 0 ≡ 0 → is_unvisited l v ≡ true
  unfolding is_unvisited
  free_is b h = and_both (ltb v (length l)) (eqb (get_or l v 0) 0) (lt-ltb v (length l) b) (eq-eqb (get_or l v 0) 0 h)

  pub free_out : length l ≤ v → is_unvisited l v ≡ false
  free_out h = not_true_false (is_unvisited l v) (λ k. let b = free_below k in omega arith)

  pub free_visited : (get_or l v 0 ≡ 0 → ⊥) → is_unvisited l v ≡ false
  free_visited h = not_true_false (is_unvisited l v) (λ k. h (free_zero k))
