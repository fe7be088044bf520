-- A number that is looked for in a list: it is found exactly if one of the places passes. `tie_refusal`, `ties_refusal` and `store_places` cite it.
use Rattle.std.specs.Prelude.{ℕ, ◌+◌, ◌≤◌, ◌<◌, ◌≡◌, Bool, false, not, length, get_or, leb}
use native.Mathlib.Omega.{arith}
use Rattle.std.proofs.Math.Path.{refl, ap, sym}
use Rattle.std.proofs.Common.{◌∙◌, ⊎_elim}
use Rattle.std.proofs.Math.Bool.{cond}
use Rattle.std.proofs.Math.Dec.{eqb, ltb}
use borrow.Author.Tests.{lt-ltb, le-ltb, le-leb, lt-leb, eq-eqb, ne_eqb}
use Rattle.base_finite.specs.Below.{any_below, counted, sum_below, count_below}
use Rattle.base_finite.specs.Laws.Below.{any_none}
use Rattle.base_finite.specs.Laws.Count.{count_more}
use Rattle.base_finite.specs.Laws.Test.{either, or_left, or_right}
use Rattle.base_limits.specs.Verdict.{refuse_if, ◌before◌, lowest_below}
use Rattle.base_limits.specs.declared.Verdict.{Verdict}
use Rattle.base_limits.specs.declared.Verdict.TheVariants.{Fine, Refused}
use Rattle.base_limits.specs.Laws.Verdict.{before_fine, before_refused, refuse_true, refuse_false}
use Rattle.theory_route.specs.First.{first_below}
use Rattle.theory_route.proofs.Laws.First.{first_none, first_exists}
use Rattle.merge_rule.specs.Ties.{Ties, is_tied_below, is_tied, tie_of, is_untied, placed, merged_count}
use Rattle.merge_rule.specs.Refusal.{tie_refusal, ties_refusal}

pub found_test : (k : ℕ) (t : ℕ → Bool) → ltb (first_below k t) k ≡ any_below k t
found_test k t =
    ⊎_elim
    (λ h. lt-ltb (first_below k t) k (first_exists k t h).below ∙ sym h)
    (λ h. let e : first_below k t ≡ k = first_none k t (any_none k t h) in le-ltb (first_below k t) k (omega (arith, e)) ∙ sym h)
    (either (any_below k t))

-- ---- 22

module _ (n m : ℕ) (ties : Ties) (i : ℕ) {u v : ℕ} (u_is : u ≡ get_or ties.firsts i 0) (v_is : v ≡ get_or ties.seconds i 0) where
  pub first_out : n ≤ u → Refused 22 i ≡ tie_refusal n m ties i
  unfolding tie_refusal
  first_out h =
      sym
      (before_refused
      (refuse_true (or_left (leb n (get_or ties.firsts i 0)) (leb m (get_or ties.seconds i 0)) (le-leb n (get_or ties.firsts i 0) (rw u_is at h))) 22 i) _)

  pub second_out : m ≤ v → Refused 22 i ≡ tie_refusal n m ties i
  unfolding tie_refusal
  second_out h =
      sym
      (before_refused
      (refuse_true (or_right (leb n (get_or ties.firsts i 0)) (leb m (get_or ties.seconds i 0)) (le-leb m (get_or ties.seconds i 0) (rw v_is at h))) 22 i) _)

  module _ (u_below : u < n) (v_below : v < m) where
    first_in : leb n (get_or ties.firsts i 0) ≡ false
    first_in = lt-leb n (get_or ties.firsts i 0) (rw u_is at u_below)

    second_in : leb m (get_or ties.seconds i 0) ≡ false
    second_in = lt-leb m (get_or ties.seconds i 0) (rw v_is at v_below)

    module _ {f : ℕ} (f_is : f ≡ first_below i (λ j. eqb (get_or ties.firsts j 0) u)) where
      first_tied : ltb f i ≡ is_tied_below ties.firsts i (get_or ties.firsts i 0)
      unfolding is_tied_below
      first_tied =
          ap (λ (k : ℕ). ltb k i) f_is
          ∙ found_test i (λ j. eqb (get_or ties.firsts j 0) u)
          ∙ ap (λ (x : ℕ). any_below i (λ j. eqb (get_or ties.firsts j 0) x)) u_is

      pub first_again : f < i → Refused 22 i ≡ tie_refusal n m ties i
      unfolding tie_refusal refuse_if ◌before◌
      first_again h = rw (first_in, second_in, ← first_tied, lt-ltb f i h)

      module _ (f_none : i ≤ f) {s : ℕ} (s_is : s ≡ first_below i (λ j. eqb (get_or ties.seconds j 0) v)) where
        second_tied : ltb s i ≡ is_tied_below ties.seconds i (get_or ties.seconds i 0)
        unfolding is_tied_below
        second_tied =
            ap (λ (k : ℕ). ltb k i) s_is
            ∙ found_test i (λ j. eqb (get_or ties.seconds j 0) v)
            ∙ ap (λ (x : ℕ). any_below i (λ j. eqb (get_or ties.seconds j 0) x)) v_is

        pub second_again : s < i → Refused 22 i ≡ tie_refusal n m ties i
        unfolding tie_refusal refuse_if ◌before◌
        second_again h = rw (first_in, second_in, ← first_tied, le-ltb f i f_none, ← second_tied, lt-ltb s i h)

        pub tie_fine : i ≤ s → Fine ≡ tie_refusal n m ties i
        unfolding tie_refusal refuse_if ◌before◌
        tie_fine h = rw (first_in, second_in, ← first_tied, le-ltb f i f_none, ← second_tied, le-ltb s i h)

-- ---- 2, then 22

module _ (n m : ℕ) (ties : Ties) where
  pub uneven_ties : (length ties.firsts ≡ length ties.seconds → ⊥) → Refused 2 0 ≡ ties_refusal n m ties
  unfolding ties_refusal
  uneven_ties h = sym (before_refused (refuse_true (rw (ne_eqb (length ties.firsts) (length ties.seconds) h)) 2 0) _)

  pub even_ties : length ties.firsts ≡ length ties.seconds → {v : Verdict} → v ≡ lowest_below (length ties.firsts) (tie_refusal n m ties)
      → v ≡ ties_refusal n m ties
  unfolding ties_refusal
  even_ties h is = is ∙ sym (before_fine (refuse_false (rw (eq-eqb (length ties.firsts) (length ties.seconds) h)) 2 0) _)

-- ---- places

module _ (n : ℕ) (ties : Ties) (v : ℕ) {i next : ℕ} (i_is : i ≡ first_below (length ties.seconds) (λ j. eqb (get_or ties.seconds j 0) v))
    (next_is : next ≡ n + count_below v (is_untied ties)) where
  tied_test : ltb i (length ties.seconds) ≡ is_tied ties.seconds v
  unfolding is_tied is_tied_below
  tied_test = ap (λ (k : ℕ). ltb k (length ties.seconds)) i_is ∙ found_test (length ties.seconds) (λ j. eqb (get_or ties.seconds j 0) v)

  pub place_found : {x : ℕ} → x ≡ cond (ltb i (length ties.seconds)) (get_or ties.firsts i 0) next → x ≡ placed n ties v
  unfolding placed tie_of
  place_found x_is =
      x_is
      ∙ ap (λ (t : Bool). cond t (get_or ties.firsts i 0) next) tied_test
      ∙ ap (λ (k : ℕ). cond (is_tied ties.seconds v) (get_or ties.firsts k 0) next) i_is
      ∙ ap (λ (k : ℕ). cond (is_tied ties.seconds v) (get_or ties.firsts (tie_of ties.seconds v) 0) k) next_is

  pub next_found : {x : ℕ} → x ≡ counted (not (ltb i (length ties.seconds))) 1 → next + x ≡ n + count_below (v + 1) (is_untied ties)
  unfolding is_untied
  next_found {x} x_is =
      let one : x ≡ counted (is_untied ties v) 1 = x_is ∙ ap (λ (t : Bool). counted (not t) 1) tied_test in
      let more : count_below v (is_untied ties) + x ≡ count_below (v + 1) (is_untied ties) = count_more v (is_untied ties) refl one in
      omega (arith, next_is, more)

module _ (n : ℕ) (ties : Ties) where
  pub places_start : n ≡ n + count_below 0 (is_untied ties)
  unfolding count_below sum_below
  places_start = omega arith

  pub places_counted : {m v next : ℕ} → v ≤ m → m ≤ v → next ≡ n + count_below v (is_untied ties) → next ≡ merged_count n m ties
  unfolding merged_count
  places_counted {m} {v} b c h = let e : v ≡ m = omega arith in h ∙ ap (λ (k : ℕ). n + count_below k (is_untied ties)) e
