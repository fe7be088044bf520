-- How many junctions the result has: those of both, less one for each tie (document 02, No. 9).
use Prim.Native.Nat.{ℕ, zero, suc, ◌+◌, ◌<◌, ◌≤◌}
use native.Mathlib.Omega.{arith}
use Rattle.std.specs.Prelude.{◌≡◌, refl, Bool, true, ◌||◌, not, List, length}
use Rattle.std.proofs.Math.Path.{ap}
use Rattle.std.proofs.Common.{sym, eq-eqb, ne_eqb, eqb-true}
use Rattle.std.proofs.Math.Bool.{false, or-false}
use Rattle.std.proofs.Math.ListN.{get_or}
use Rattle.std.proofs.Math.Dec.{eqb}
use Rattle.base_finite.specs.Below.{counted, sum_below, count_below, any_below}
use Rattle.base_finite.specs.Laws.Below.{sum_at, counted_true, counted_false, count_none, any_elim, Found}
use Rattle.base_finite.specs.Laws.Test.{not_true_false, or_right}
use Rattle.merge_rule.specs.Ties.{Ties, is_tied_below, is_tied, is_untied, merged_count}
use Rattle.merge_rule.specs.Sound.{TiesSound}

module _ (side : List ℕ) (m k : ℕ) (below : (i : ℕ) → i < k → get_or side i 0 < m) (once : (i j : ℕ) → i < j → j < k → get_or side i 0 ≡ get_or side j 0 → ⊥) where
  -- One more tie ties one more.
  tied_more : (i : ℕ) → i < k → count_below m (is_tied_below side (suc i)) ≡ count_below m (is_tied_below side i) + 1
  unfolding count_below is_tied_below any_below
  tied_more i h =
      let x = get_or side i 0 in
      let fresh : any_below i (λ j. eqb (get_or side j 0) x) ≡ false =
      not_true_false (any_below i (λ j. eqb (get_or side j 0) x))
      (λ t.
      let f : Found i (λ j. eqb (get_or side j 0) x) = any_elim i (λ j. eqb (get_or side j 0) x) t in
      once f.at i f.below h (eqb-true (get_or side f.at 0) x f.passes)) in
      let before : counted (any_below i (λ j. eqb (get_or side j 0) x)) 1 ≡ 0 = counted_false fresh 1 in
      let after : counted (any_below i (λ j. eqb (get_or side j 0) x) || eqb x x) 1 ≡ 1 =
      counted_true (or_right (any_below i (λ j. eqb (get_or side j 0) x)) (eqb x x) (eq-eqb x x refl)) 1 in
      omega (
        arith,
        before,
        after,
        sum_at m (λ v. counted (any_below i (λ j. eqb (get_or side j 0) v) || eqb x v) 1) (λ v. counted (any_below i (λ j. eqb (get_or side j 0) v)) 1) x (below i h)
            (λ v b other. ap (λ t. counted t 1) (same v other)),
      )
    where
      same : (v : ℕ) → (v ≡ get_or side i 0 → ⊥) → (any_below i (λ j. eqb (get_or side j 0) v) || eqb (get_or side i 0) v) ≡ any_below i (λ j. eqb (get_or side j 0) v)
      same v other = rw (ne_eqb (get_or side i 0) v (λ e. other (sym e))) (or-false (any_below i (λ j. eqb (get_or side j 0) v)))

  pub tied_count : (i : ℕ) → i ≤ k → count_below m (is_tied_below side i) ≡ i
  unfolding is_tied_below any_below
  tied_count zero h = count_none m (is_tied_below side 0) (λ v b. refl)
  tied_count (suc i) h = let ih : count_below m (is_tied_below side i) ≡ i = tied_count i (omega arith) in omega (arith, tied_more i (omega arith))

-- Those that pass and those that do not.
count_not : (m : ℕ) (t : ℕ → Bool) → count_below m (λ v. not (t v)) + count_below m t ≡ m
unfolding count_below sum_below counted
count_not zero t = refl
count_not (suc m) t = by (t m) (count_not m t)
  where
    by : (x : Bool) → sum_below m (λ v. counted (not (t v)) 1) + sum_below m (λ v. counted (t v) 1) ≡ m
        → sum_below m (λ v. counted (not (t v)) 1) + counted (not x) 1 + (sum_below m (λ v. counted (t v) 1) + counted x 1) ≡ suc m
    by true ih = omega (arith, ih)
    by false ih = omega (arith, ih)

pub merged_count_law : (n m : ℕ) (ties : Ties) → TiesSound n m ties → merged_count n m ties + length ties.firsts ≡ n + m
unfolding merged_count is_untied is_tied
merged_count_law n m ties ok =
    let k = length ties.seconds in
    let tied : count_below m (is_tied_below ties.seconds (length ties.seconds)) ≡ length ties.seconds =
    tied_count ties.seconds m (length ties.seconds) (λ i b. ok.second_below i (rw ok.long b)) (λ i j c b. ok.second_once i j c (rw ok.long b))
    (length ties.seconds) (omega arith) in
    omega (arith, tied, ok.long, count_not m (is_tied_below ties.seconds (length ties.seconds)))
