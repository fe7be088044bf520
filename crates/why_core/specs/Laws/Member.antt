-- A member of a list, as the code finds it: 0 is no list; by a pair; by its own group.
use Rattle.std.specs.Prelude.{ℕ, zero, suc, ◌+◌, ◌<◌, ◌≤◌, ◌≡◌, refl, Bool, true, false, ◌&&◌, ◌||◌, not, [], List, get_or, eqb, Option, Some, None, unwrap_or}
use Rattle.std.proofs.Math.Path.{sym}
use Rattle.std.proofs.Common.{◌∙◌, ap, arith, eq-eqb, ne_eqb}
use Rattle.std.proofs.lemmas.Bool.{not-false}
use Rattle.std.specs.Option.{MatchOption}
use Rattle.std.specs.List.{list_any, range_with_len}
use Rattle.base_finite.specs.Below.{any_below}
use Rattle.base_finite.specs.Laws.Below.{any_cong}
use Rattle.theory_route.specs.First.{first_below}
use Rattle.theory_route.proofs.Laws.First.{first_is, first_none}
use Rattle.survey_core.specs.Lists.{Lists, lists_from, is_paired, in_list}

paired_by : (groups owners others : List ℕ) (g v : ℕ) → is_paired (lists_from [] owners others) g v ≡ is_paired (lists_from groups owners others) g v
unfolding is_paired
paired_by groups owners others g v = refl

pub no_list : (l : Lists) (g v : ℕ) → g ≡ 0 → false ≡ in_list l g v
unfolding in_list
no_list l g v h = rw (eq-eqb g 0 h)

module _ (groups owners others : List ℕ) (g v : ℕ) (some : g ≡ 0 → ⊥) {r : Bool} (is : r ≡ is_paired (lists_from [] owners others) g v) where
  pub by_pairs : r ≡ true → true ≡ in_list (lists_from groups owners others) g v
  unfolding in_list
  by_pairs h = rw (ne_eqb g 0 some, sym (paired_by groups owners others g v) ∙ sym is ∙ h)

  pub by_group : {x : ℕ} → r ≡ false → x ≡ get_or groups v 0 → eqb x g ≡ in_list (lists_from groups owners others) g v
  unfolding in_list
  by_group h k = rw (ne_eqb g 0 some, sym (paired_by groups owners others g v) ∙ sym is ∙ h, k)

-- A member, and two labels as the code reads them.
pub labels_apart : (l : Lists) (g v : ℕ) (labels : List ℕ) (u : ℕ) {r : Bool} {x y : ℕ} → r ≡ in_list l g v → not r ≡ false → x ≡ get_or labels u 0 → y ≡ get_or labels v 0
    → not (eqb x y) ≡ (in_list l g v && not (eqb (get_or labels u 0) (get_or labels v 0)))
labels_apart l g v labels u {r} is member h k = rw (sym is ∙ not-false r member, h, k)

-- ---- a search of the numbers below n, as the library's calls leave it

pub first_found : (n : ℕ) (t : ℕ → Bool) (r : Option ℕ)
    → MatchOption r ((k : ℕ) → 0 ≤ k → k < n → t k ≡ false) (λ i. (0 ≤ i) × (i < n) × (t i ≡ true) × ((k : ℕ) → 0 ≤ k → k < i → t k ≡ false))
    → unwrap_or r n ≡ first_below n t
first_found n t None h = sym (first_none n t (λ k b. h k (omega arith) b))
first_found n t (Some i) h = sym (first_is n t i (record { below = h.1; passes = h.2; none_before = λ j b. h.3 j (omega arith) b }))

or_none : (b : Bool) → b ≡ (b || false)
or_none true = refl
or_none false = refl

or_over : (a b c : Bool) → ((a || b) || c) ≡ (a || (b || c))
or_over true b c = refl
or_over false b c = refl

any_front : (n : ℕ) (t : ℕ → Bool) → any_below (suc n) t ≡ (t 0 || any_below n (λ k. t (suc k)))
unfolding any_below
any_front zero t = or_none (t 0)
any_front (suc n) t = ap (λ b. b || t (suc n)) (any_front n t) ∙ or_over (t 0) (any_below n (λ k. t (suc k))) (t (suc n))

any_from : (n a : ℕ) (t : ℕ → Bool) → list_any t (range_with_len a n) ≡ any_below n (λ k. t (a + k))
unfolding any_below
any_from zero a t = refl
any_from (suc n) a t =
    ap (λ b. t a || b) (any_from n (a + 1) t ∙ any_cong n _ _ (λ k b. ap t (omega arith)))
    ∙ ap (λ b. t b || any_below n (λ k. t (a + suc k))) (omega arith)
    ∙ sym (any_front n (λ k. t (a + k)))

pub any_found : (n : ℕ) (t : ℕ → Bool) → list_any t (range_with_len 0 n) ≡ any_below n t
any_found n t = any_from n 0 t ∙ any_cong n _ _ (λ k b. ap t (omega arith))
