-- The numbers below a bound that pass a test, rising: what the list holds, and that it holds each. With them, the elements of a mapped list, and counts that rise.
use Rattle.std.specs.Prelude.{ℕ, zero, suc, ◌+◌, ◌<◌, ◌≤◌, ◌≡◌, refl, Bool, true, false, cond, List, [], ◌∷◌, ◌++◌, map, length, get_or}
use Rattle.std.proofs.Common.{arith, ap, sym, ◌∙◌, ⊎_elim, length-append}
use Rattle.std.proofs.Math.ListN.{get_or-append}
use Rattle.std.proofs.lemmas.List.{get_or_at}
use Rattle.base_finite.specs.Below.{counted, sum_below, count_below, those_below}
use Rattle.base_finite.specs.Laws.Below.{below_suc, counted_true}
use Rattle.base_finite.specs.Laws.Test.{true_not_false}

-- x stands in l.
pub record At (l : List ℕ) (x : ℕ) : Type 0 where
  pub at : ℕ
  pub below : at < length l
  pub is : get_or l at 0 ≡ x

-- l is the list of those below n that pass.
pub record Chosen (n : ℕ) (t : ℕ → Bool) (l : List ℕ) : Type 0 where
  pub below : (i : ℕ) → i < length l → get_or l i 0 < n
  pub passes : (i : ℕ) → i < length l → t (get_or l i 0) ≡ true
  pub rising : (i j : ℕ) → i < j → j < length l → get_or l i 0 < get_or l j 0
  pub each : (x : ℕ) → x < n → t x ≡ true → At l x

module _ (n : ℕ) (t : ℕ → Bool) (l : List ℕ) (h : Chosen n t l) where
  -- The next number fails.
  chosen_skip : t n ≡ false → Chosen (suc n) t (l ++ [])
  chosen_skip no_pass =
      record {
        below = λ i b. rw (same i (shorter i b)) (let x : get_or l i 0 < n = h.below i (shorter i b) in omega arith);
        passes = λ i b. rw (same i (shorter i b)) (h.passes i (shorter i b));
        rising = λ i j c b.
            let bj : j < length l = shorter j b in
            let bi : i < length l = omega arith in
            rw (same i bi, same j bj) (h.rising i j c bj);
        each = λ x b p.
            ⊎_elim
            (λ c. let a : At l x = h.each x c p in record { at = a.at; below = longer a.at a.below; is = same a.at a.below ∙ a.is })
            (λ e. true_not_false (t x) p (ap t e ∙ no_pass))
            (below_suc x n b);
      }
    where
      shorter : (i : ℕ) → i < length (l ++ []) → i < length l
      shorter i b = omega (arith, length-append {A = ℕ} l [])

      longer : (i : ℕ) → i < length l → i < length (l ++ [])
      longer i b = omega (arith, length-append {A = ℕ} l [])

      same : (i : ℕ) → i < length l → get_or (l ++ []) i 0 ≡ get_or l i 0
      same i b = get_or-append l [] 0 i b

  -- The next number passes.
  chosen_take : t n ≡ true → Chosen (suc n) t (l ++ (n ∷ []))
  chosen_take pass =
      record {
        below = λ i b.
            ⊎_elim
            (λ c. rw (same i c) (let x : get_or l i 0 < n = h.below i c in omega arith))
            (λ e. rw (last i e) (omega arith))
            (below_suc i (length l) (shorter i b));
        passes = λ i b. ⊎_elim (λ c. rw (same i c) (h.passes i c)) (λ e. rw (last i e) pass) (below_suc i (length l) (shorter i b));
        rising = λ i j c b.
            ⊎_elim
            (λ d. let bi : i < length l = omega arith in rw (same i bi, same j d) (h.rising i j c d))
            (λ e. let bi : i < length l = omega arith in rw (same i bi, last j e) (h.below i bi))
            (below_suc j (length l) (shorter j b));
        each = λ x b p.
            ⊎_elim
            (λ c.
            let a : At l x = h.each x c p in
            let y : a.at < length l = a.below in
            record { at = a.at; below = longer a.at (omega arith); is = same a.at y ∙ a.is })
            (λ e. record { at = length l; below = longer (length l) (omega arith); is = last (length l) refl ∙ sym e })
            (below_suc x n b);
      }
    where
      shorter : (i : ℕ) → i < length (l ++ (n ∷ [])) → i < suc (length l)
      shorter i b = omega (arith, length-append {A = ℕ} l (n ∷ []))

      longer : (i : ℕ) → i ≤ length l → i < length (l ++ (n ∷ []))
      longer i b = omega (arith, length-append {A = ℕ} l (n ∷ []))

      same : (i : ℕ) → i < length l → get_or (l ++ (n ∷ [])) i 0 ≡ get_or l i 0
      same i b = get_or-append l (n ∷ []) 0 i b

      last : (i : ℕ) → i ≡ length l → get_or (l ++ (n ∷ [])) i 0 ≡ n
      last i e = get_or_at l n [] 0 i (sym e)

pub those_chosen : (n : ℕ) (t : ℕ → Bool) → Chosen n t (those_below n t)
unfolding those_below
those_chosen zero t =
    record {
      below = λ i b. absurd (omega arith);
      passes = λ i b. absurd (omega arith);
      rising = λ i j c b. absurd (omega arith);
      each = λ x b p. absurd (omega arith);
    }
those_chosen (suc n) t = by (those_chosen n t) (t n) refl
  where
    by : Chosen n t (those_below n t) → (x : Bool) → t n ≡ x → Chosen (suc n) t (those_below n t ++ cond x (n ∷ []) [])
    by ih true e = chosen_take n t (those_below n t) ih e
    by ih false e = chosen_skip n t (those_below n t) ih e

-- An element of a mapped list.
pub get_d_map_below : (f : ℕ → ℕ) (l : List ℕ) (i : ℕ) → i < length l → get_or (map f l) i 0 ≡ f (get_or l i 0)
get_d_map_below f [] i b = absurd (omega arith)
get_d_map_below f (x ∷ l) zero b = refl
get_d_map_below f (x ∷ l) (suc i) b = get_d_map_below f l i (omega arith)

-- ---- counts that rise

pub count_suc : (n : ℕ) (t : ℕ → Bool) → count_below (suc n) t ≡ count_below n t + counted (t n) 1
unfolding count_below sum_below
count_suc n t = refl

pub count_grows : (k n : ℕ) (t : ℕ → Bool) → k ≤ n → count_below k t ≤ count_below n t
count_grows k zero t h = let e : k ≡ 0 = omega arith in rw e (omega arith)
count_grows k (suc n) t h =
    ⊎_elim
    (λ c. let ih : count_below k t ≤ count_below n t = count_grows k n t (omega arith) in omega (arith, count_suc n t))
    (λ e. rw e (omega arith))
    (below_suc k (suc n) (omega arith))

-- One that passes counts from the next number on.
pub count_passes : (k n : ℕ) (t : ℕ → Bool) → k < n → t k ≡ true → count_below k t < count_below n t
count_passes k n t h p =
    let x : count_below (suc k) t ≤ count_below n t = count_grows (suc k) n t (omega arith) in
    omega (arith, count_suc k t, counted_true p 1)
