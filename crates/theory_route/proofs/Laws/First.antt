-- The first number that passes a test, as a scan finds it and as it is used.
use Rattle.std.specs.Prelude.{ℕ, zero, suc, ◌+◌, ◌<◌, ◌≤◌, ◌≡◌, refl, ◌⊎◌, Bool, true, false}
use Rattle.std.proofs.Common.{arith, add-one, sym, ◌∙◌, subst, inl, inr, ⊎_elim}
use Rattle.base_finite.specs.Below.{any_below}
use Rattle.base_finite.specs.Laws.Test.{either, true_not_false, not_true_false}
use Rattle.base_finite.specs.Laws.Below.{below_suc, any_intro, any_elim, any_none, any_cong, Found}
use Rattle.theory_route.specs.First.{first_below}

-- Where the first number is.
pub record IsFirst (n : ℕ) (t : ℕ → Bool) (i : ℕ) : Type 0 where
  pub below : i < n
  pub passes : t i ≡ true
  pub none_before : (j : ℕ) → j < i → t j ≡ false

none_any : (n : ℕ) (t : ℕ → Bool) → ((j : ℕ) → j < n → t j ≡ false) → any_below n t ≡ false
none_any n t h = not_true_false (any_below n t) (λ k. let f : Found n t = any_elim n t k in true_not_false (t f.at) f.passes (h f.at f.below))

pub first_is : (n : ℕ) (t : ℕ → Bool) (i : ℕ) → IsFirst n t i → first_below n t ≡ i
unfolding first_below
first_is zero t i h = absurd (let b : i < 0 = h.below in omega arith)
first_is (suc n) t i h = ⊎_elim (earlier (λ k. first_is n t i k)) here (below_suc i n h.below)
  where
    earlier : (IsFirst n t i → first_below n t ≡ i) → i < n → first_below (suc n) t ≡ i
    earlier below b = rw (any_intro n t i b h.passes) (below (record { below = b; passes = h.passes; none_before = h.none_before }))

    here : i ≡ n → first_below (suc n) t ≡ i
    here e =
        let none : any_below n t ≡ false = none_any n t (λ j b. h.none_before j (omega arith)) in
        let at : t n ≡ true = subst (λ k. t k ≡ true) e h.passes in
        rw (none, at) (sym e)

pub first_none : (n : ℕ) (t : ℕ → Bool) → ((j : ℕ) → j < n → t j ≡ false) → first_below n t ≡ n
unfolding first_below
first_none zero t h = refl
first_none (suc n) t h = rw (none_any n t (λ j b. h j (omega arith)), h n (omega arith))

pub first_exists : (n : ℕ) (t : ℕ → Bool) → any_below n t ≡ true → IsFirst n t (first_below n t)
unfolding first_below any_below
first_exists zero t h = absurd (true_not_false false h refl)
first_exists (suc n) t h = by (λ k. first_exists n t k) (either (any_below n t))
  where
    by : (any_below n t ≡ true → IsFirst n t (first_below n t)) → (any_below n t ≡ true) ⊎ (any_below n t ≡ false) →
        IsFirst (suc n) t (first_below (suc n) t)
    by below (inl k) =
        let f : IsFirst n t (first_below n t) = below k in
        let b : first_below n t < n = f.below in
        rw k (record { below = omega arith; passes = f.passes; none_before = f.none_before })
    by below (inr k) =
        let at : t n ≡ true = rw k at h in
        rw (k, at) (record { below = omega arith; passes = at; none_before = any_none n t k })

pub first_cong : (n : ℕ) (s t : ℕ → Bool) → ((i : ℕ) → i < n → s i ≡ t i) → first_below n s ≡ first_below n t
unfolding first_below
first_cong zero s t h = refl
first_cong (suc n) s t h = rw (any_cong n s t (λ i b. h i (omega arith)), first_cong n s t (λ i b. h i (omega arith)), h n (omega arith))

-- ---- a loop that looks at the numbers one after the other

pub record Unmet (n : ℕ) (t : ℕ → Bool) (i : ℕ) : Type 0 where
  pub within : i ≤ n
  pub none : (j : ℕ) → j < i → t j ≡ false

pub unmet_start : (n : ℕ) (t : ℕ → Bool) → Unmet n t 0
unmet_start n t = record { within = omega arith; none = λ j b. absurd (omega arith) }

pub unmet_turn : {n i : ℕ} {t : ℕ → Bool} {r : Bool} → Unmet n t i → i < n → r ≡ t i → r ≡ false → Unmet n t (i + 1)
unmet_turn {n} {i} {t} h b is misses =
    record { within = omega arith; none = λ j c. ⊎_elim (h.none j) (λ e. subst (λ k. t k ≡ false) (sym e) (sym is ∙ misses)) (below_suc j i (rw (add-one i) at c)) }

pub unmet_found : {n i : ℕ} {t : ℕ → Bool} {r : Bool} → Unmet n t i → i < n → r ≡ t i → r ≡ true → i ≡ first_below n t
unmet_found {n} {i} {t} h b is passes = sym (first_is n t i (record { below = b; passes = sym is ∙ passes; none_before = h.none }))

pub unmet_end : {n i : ℕ} {t : ℕ → Bool} → Unmet n t i → n ≤ i → n ≡ first_below n t
unmet_end {n} {i} {t} h c = sym (first_none n t (λ j b. h.none j (omega arith)))
