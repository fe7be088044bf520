-- The root of a group is its lowest member, and a group in company has one.
use Prim.Native.Nat.{ℕ, zero, suc, ◌≤◌, ◌<◌}
use native.Mathlib.Omega.{arith}
use Rattle.std.specs.Prelude.{◌≡◌, ◌⊎◌, Bool, true, ◌&&◌, not, List, length, ltb}
use Rattle.std.proofs.Common.{subst, inl, inr}
use Rattle.std.proofs.Math.Logic.{⊎_elim}
use Rattle.std.proofs.Math.Bool.{false}
use Rattle.std.proofs.Math.ListN.{get_or}
use Rattle.std.proofs.Math.Dec.{eqb}
use borrow.Author.Tests.{eqb-true, eqb-false, ltb-true, not-true, not-false}
use Rattle.base_finite.specs.Below.{count_below}
use Rattle.base_finite.specs.Laws.Test.{either, and_left, and_right, and_false_cases}
use Rattle.base_finite.specs.Laws.Below.{below_suc, lt_or_ge, count_elim, Found}
use Rattle.floor_rule.specs.Ascent.{lowest_in, in_company}

module _ (groups : List ℕ) (l : ℕ) where
  -- Vertex v is past all members so far, and none itself.
  abbrev passed : ℕ → Bool
  passed v = eqb (lowest_in groups l v) v && not (eqb (get_or groups v 0) l)

  pub lowest_le : (n : ℕ) → lowest_in groups l n ≤ n
  unfolding lowest_in
  lowest_le zero = omega arith
  lowest_le (suc v) = by (lowest_le v) (either (passed v))
    where
      by : lowest_in groups l v ≤ v → (passed v ≡ true) ⊎ (passed v ≡ false) → lowest_in groups l (suc v) ≤ suc v
      by h (inl t) = rw t (omega arith)
      by h (inr t) = rw t (omega arith)

  pub lowest_member : (n : ℕ) → lowest_in groups l n < n → get_or groups (lowest_in groups l n) 0 ≡ l
  unfolding lowest_in
  lowest_member zero h = absurd (omega arith)
  lowest_member (suc v) h = by (λ b. lowest_member v b) (either (passed v)) h
    where
      low : ℕ
      low = lowest_in groups l v

      stays : passed v ≡ false → (low < v) ⊎ (get_or groups low 0 ≡ l)
      stays t =
          ⊎_elim
          (λ e. inl (let c : low ≤ v = lowest_le v in let d : low ≡ v → ⊥ = eqb-false low v e in omega arith))
          (λ e. ⊎_elim (λ b. inl b)
          (λ b. inr (let c : low ≤ v = lowest_le v in let s : v ≡ low = omega arith in
          subst (λ u. get_or groups u 0 ≡ l) s (eqb-true (get_or groups v 0) l (not-false (eqb (get_or groups v 0) l) e)))) (lt_or_ge low v))
          (and_false_cases (eqb low v) (not (eqb (get_or groups v 0) l)) t)

      by : (low < v → get_or groups low 0 ≡ l) → (passed v ≡ true) ⊎ (passed v ≡ false) → lowest_in groups l (suc v) < suc v → get_or groups (lowest_in groups l (suc v)) 0 ≡ l
      by before (inl t) c = absurd (let d : suc v < suc v = rw t at c in omega arith)
      by before (inr t) c = rw t (⊎_elim before (λ e. e) (stays t))

  pub lowest_below_law : (n v : ℕ) → v < n → get_or groups v 0 ≡ l → lowest_in groups l n < n
  unfolding lowest_in
  lowest_below_law zero v b m = absurd (omega arith)
  lowest_below_law (suc n) v b m = by (λ c. lowest_below_law n v c m) (either (passed n))
    where
      by : (v < n → lowest_in groups l n < n) → (passed n ≡ true) ⊎ (passed n ≡ false) → lowest_in groups l (suc n) < suc n
      by before (inr t) = rw t (omega (arith, lowest_le n))
      by before (inl t) =
          let e : lowest_in groups l n ≡ n = eqb-true (lowest_in groups l n) n (and_left (eqb (lowest_in groups l n) n) (not (eqb (get_or groups n 0) l)) t) in
          let other : eqb (get_or groups n 0) l ≡ false = not-true (eqb (get_or groups n 0) l) (and_right (eqb (lowest_in groups l n) n) (not (eqb (get_or groups n 0) l)) t) in
          ⊎_elim
          (λ c. absurd (let d : lowest_in groups l n < n = before c in omega arith))
          (λ same. absurd (eqb-false (get_or groups n 0) l other (subst (λ u. get_or groups u 0 ≡ l) same m)))
          (below_suc v n b)

  pub company_some : in_company groups l ≡ true → l ≡ 0 → ⊥
  unfolding in_company
  company_some h = eqb-false l 0 (not-true (eqb l 0) (and_left (not (eqb l 0)) (ltb 1 (count_below (length groups) (λ v. eqb (get_or groups v 0) l))) h))

  pub company_member : in_company groups l ≡ true → Found (length groups) (λ v. eqb (get_or groups v 0) l)
  unfolding in_company
  company_member h =
      let two : 1 < count_below (length groups) (λ v. eqb (get_or groups v 0) l) =
      ltb-true 1 (count_below (length groups) (λ v. eqb (get_or groups v 0) l)) (and_right (not (eqb l 0)) (ltb 1 (count_below (length groups) (λ v. eqb (get_or groups v 0) l))) h) in
      count_elim (length groups) (λ v. eqb (get_or groups v 0) l) (omega arith)
