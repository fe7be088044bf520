-- Where the junctions of the second survey stand (document 02, No. 9): each at a place of its own in the result, a tied one at its tie, an untied one behind
-- the first's junctions; and which junction stands at a place.
use Rattle.std.specs.Prelude.{ℕ, zero, suc, ◌+◌, ◌<◌, ◌≤◌, ◌≡◌, refl, ◌⊎◌, true, false, List, length}
use Rattle.std.proofs.Common.{arith, ap, ◌∙◌, inl, inr}
use Rattle.std.proofs.Math.Decide.{ℕ_discrete}
use Rattle.std.proofs.Math.Path.{sym}
use Rattle.std.proofs.Math.Logic.{⊎_elim}
use Rattle.std.proofs.Math.ListN.{get_or}
use Rattle.std.proofs.Math.Dec.{eqb}
use borrow.Author.Tests.{eq-eqb, ne_eqb, eqb-true}
use Rattle.base_finite.specs.Below.{count_below}
use Rattle.base_finite.specs.Laws.Below.{lt_or_ge, any_intro, any_elim, Found, counted_false, counted_le, count_none}
use Rattle.base_finite.specs.Laws.Test.{either, true_not_false, not_of_false}
use Rattle.theory_route.proofs.Laws.First.{first_is, first_none, first_cong}
use Rattle.theory_route.specs.First.{first_below}
use Rattle.merge_rule.specs.Ties.{Ties, is_tied_below, is_tied, tie_of, is_untied, placed, merged_count, standing_at}
use Rattle.merge_rule.specs.Sound.{TiesSound}
use Rattle.merge_rule.proofs.Laws.Those.{At, count_suc, count_passes}

-- ---- one side of the ties

module _ (side : List ℕ) (v : ℕ) where
  pub tied_elim : is_tied side v ≡ true → At side v
  unfolding is_tied is_tied_below
  tied_elim h =
      let f : Found (length side) (λ i. eqb (get_or side i 0) v) = any_elim (length side) (λ i. eqb (get_or side i 0) v) h in
      record { at = f.at; below = f.below; is = eqb-true (get_or side f.at 0) v f.passes }

  pub tied_intro : At side v → is_tied side v ≡ true
  unfolding is_tied is_tied_below
  tied_intro a = any_intro (length side) (λ i. eqb (get_or side i 0) v) a.at a.below (eq-eqb (get_or side a.at 0) v a.is)

  -- The tie that names v, where no two do.
  pub tie_of_law : ((i j : ℕ) → i < j → j < length side → get_or side i 0 ≡ get_or side j 0 → ⊥) → (a : At side v) → tie_of side v ≡ a.at
  unfolding tie_of
  tie_of_law once a =
      first_is (length side) (λ i. eqb (get_or side i 0) v) a.at
      (record {
        below = a.below;
        passes = eq-eqb (get_or side a.at 0) v a.is;
        none_before = λ j b. ne_eqb (get_or side j 0) v (λ e. once j a.at b a.below (e ∙ sym a.is));
      })

-- ---- places

-- The tie of a tied junction v of the second, and that v stands there.
pub record TieAt (n : ℕ) (ties : Ties) (v : ℕ) : Type 0 where
  pub at : ℕ
  pub below : at < length ties.firsts
  pub second_is : get_or ties.seconds at 0 ≡ v
  pub place_is : placed n ties v ≡ get_or ties.firsts at 0

module _ (n m : ℕ) (ties : Ties) (ok : TiesSound n m ties) where
  -- A tie names a junction of the second.
  module _ (i : ℕ) (b : i < length ties.firsts) where
    second_at_law : At ties.seconds (get_or ties.seconds i 0)
    second_at_law = record { at = i; below = let l = ok.long in omega arith; is = refl }

    -- A tied junction stands at its tie.
    pub placed_tied : placed n ties (get_or ties.seconds i 0) ≡ get_or ties.firsts i 0
    unfolding placed second_at_law
    placed_tied =
        let is : tie_of ties.seconds (get_or ties.seconds i 0) ≡ i =
        tie_of_law ties.seconds (get_or ties.seconds i 0) (λ j k c d. ok.second_once j k c (let l = ok.long in omega arith)) second_at_law in
        rw (tied_intro ties.seconds (get_or ties.seconds i 0) second_at_law) (ap (λ k. get_or ties.firsts k 0) is)

  -- An untied one behind the first's.
  pub placed_untied : (v : ℕ) → is_tied ties.seconds v ≡ false → placed n ties v ≡ n + count_below v (is_untied ties)
  unfolding placed
  placed_untied v h = rw h

  untied_passes : (v : ℕ) → is_tied ties.seconds v ≡ false → is_untied ties v ≡ true
  unfolding is_untied
  untied_passes v h = not_of_false (is_tied ties.seconds v) h

  pub tie_at_law : (v : ℕ) → is_tied ties.seconds v ≡ true → TieAt n ties v
  tie_at_law v h =
      let a : At ties.seconds v = tied_elim ties.seconds v h in
      let b : a.at < length ties.firsts = let l = ok.long in let c = a.below in omega arith in
      record {
        at = a.at;
        below = b;
        second_is = a.is;
        place_is = ap (placed n ties) (sym a.is) ∙ placed_tied a.at b;
      }

  -- A tied one stands among the first's junctions, an untied one behind them.
  pub tied_below : (v : ℕ) → is_tied ties.seconds v ≡ true → placed n ties v < n
  tied_below v h = let t : TieAt n ties v = tie_at_law v h in rw t.place_is (ok.first_below_law t.at t.below)

  pub untied_behind : (v : ℕ) → is_tied ties.seconds v ≡ false → n ≤ placed n ties v
  untied_behind v h = rw (placed_untied v h) (omega arith)

  -- Every place is one of the result.
  pub placed_below : (v : ℕ) → v < m → placed n ties v < merged_count n m ties
  unfolding merged_count
  placed_below v b =
      ⊎_elim
      (λ h. let x : placed n ties v < n = tied_below v h in omega arith)
      (λ h.
      let x : count_below v (is_untied ties) < count_below m (is_untied ties) = count_passes v m (is_untied ties) b (untied_passes v h) in
      rw (placed_untied v h) (omega arith))
      (either (is_tied ties.seconds v))

  -- Two ties of one place are one.
  same_tie : (i j : ℕ) → i < length ties.firsts → j < length ties.firsts → get_or ties.firsts i 0 ≡ get_or ties.firsts j 0 → i ≡ j
  same_tie i j bi bj e = by (ℕ_discrete i j) (lt_or_ge i j)
    where
      by : Dec (i ≡ j) → (i < j) ⊎ (j ≤ i) → i ≡ j
      by (yes same) c = same
      by (no apart) (inl c) = absurd (ok.first_once i j c bj e)
      by (no apart) (inr c) = absurd (ok.first_once j i (omega arith) bi (sym e))

  -- 'rising': of two untied junctions the lower stands lower.
  pub untied_rise : (v w : ℕ) → is_tied ties.seconds v ≡ false → is_tied ties.seconds w ≡ false → v < w → placed n ties v < placed n ties w
  untied_rise v w hv hw c =
      let x : count_below v (is_untied ties) < count_below w (is_untied ties) = count_passes v w (is_untied ties) c (untied_passes v hv) in
      rw (placed_untied v hv, placed_untied w hw) (omega arith)

  -- No two junctions of the second stand at one place.
  pub placed_once : (v w : ℕ) → placed n ties v ≡ placed n ties w → v ≡ w
  placed_once v w e = by (either (is_tied ties.seconds v)) (either (is_tied ties.seconds w))
    where
      by : (is_tied ties.seconds v ≡ true) ⊎ (is_tied ties.seconds v ≡ false) → (is_tied ties.seconds w ≡ true) ⊎ (is_tied ties.seconds w ≡ false) → v ≡ w
      by (inl hv) (inl hw) =
          let x : TieAt n ties v = tie_at_law v hv in
          let y : TieAt n ties w = tie_at_law w hw in
          let same : x.at ≡ y.at = same_tie x.at y.at x.below y.below (sym x.place_is ∙ e ∙ y.place_is) in
          sym x.second_is ∙ ap (λ k. get_or ties.seconds k 0) same ∙ y.second_is
      by (inl hv) (inr hw) = absurd (omega (arith, tied_below v hv, untied_behind w hw))
      by (inr hv) (inl hw) = absurd (omega (arith, tied_below w hw, untied_behind v hv))
      by (inr hv) (inr hw) = apart (ℕ_discrete v w) (lt_or_ge v w)
        where
          apart : Dec (v ≡ w) → (v < w) ⊎ (w ≤ v) → v ≡ w
          apart (yes same) c = same
          apart (no d) (inl c) = absurd (omega (arith, untied_rise v w hv hw c))
          apart (no d) (inr c) = let k : w < v = omega arith in absurd (omega (arith, untied_rise w v hw hv k))

  -- ---- what stands at a place

  pub standing_placed : (v : ℕ) → v < m → standing_at n m ties (placed n ties v) ≡ v
  unfolding standing_at
  standing_placed v b =
      first_is m (λ x. eqb (placed n ties x) (placed n ties v)) v
      (record {
        below = b;
        passes = eq-eqb (placed n ties v) (placed n ties v) refl;
        none_before = λ j c. ne_eqb (placed n ties j) (placed n ties v) (λ e. let z : j ≡ v = placed_once j v e in omega arith);
      })

  -- At a tie stands the junction that is tied.
  pub standing_tied : (i : ℕ) → i < length ties.firsts → standing_at n m ties (get_or ties.firsts i 0) ≡ get_or ties.seconds i 0
  standing_tied i b = ap (standing_at n m ties) (sym (placed_tied i b)) ∙ standing_placed (get_or ties.seconds i 0) (ok.second_below i b)

  -- At an untied junction of the first, none.
  pub standing_none : (u : ℕ) → u < n → is_tied ties.firsts u ≡ false → standing_at n m ties u ≡ m
  unfolding standing_at
  standing_none u b h =
      first_none m (λ v. eqb (placed n ties v) u)
      (λ v c. ne_eqb (placed n ties v) u (λ e. by v e (either (is_tied ties.seconds v))))
    where
      by : (v : ℕ) → placed n ties v ≡ u → (is_tied ties.seconds v ≡ true) ⊎ (is_tied ties.seconds v ≡ false) → ⊥
      by v e (inl k) =
          let t : TieAt n ties v = tie_at_law v k in
          true_not_false (is_tied ties.firsts u) (tied_intro ties.firsts u (record { at = t.at; below = t.below; is = sym t.place_is ∙ e })) h
      by v e (inr k) = omega (arith, untied_behind v k)

-- ---- 'follow': no place behind the first's junctions is empty

-- The untied junction of the second, below m, that stands at w.
pub record Filled (n m : ℕ) (ties : Ties) (w : ℕ) : Type 0 where
  pub junction : ℕ
  pub below : junction < m
  pub untied : is_tied ties.seconds junction ≡ false
  pub stands : placed n ties junction ≡ w

pub place_filled : (n m : ℕ) (ties : Ties) (w : ℕ) → n ≤ w → w < merged_count n m ties → Filled n m ties w
unfolding merged_count is_untied placed
place_filled n zero ties w h b = absurd (omega (arith, count_none 0 (is_untied ties) (λ i c. absurd (omega arith))))
place_filled n (suc m) ties w h b = by (λ c. place_filled n m ties w h c) (either (is_tied ties.seconds m)) (lt_or_ge w (n + count_below m (is_untied ties)))
  where
    by : (w < n + count_below m (is_untied ties) → Filled n m ties w) → (is_tied ties.seconds m ≡ true) ⊎ (is_tied ties.seconds m ≡ false)
        → (w < n + count_below m (is_untied ties)) ⊎ (n + count_below m (is_untied ties) ≤ w) → Filled n (suc m) ties w
    by ih t (inl c) =
        let f : Filled n m ties w = ih c in
        let x : f.junction < m = f.below in
        record { junction = f.junction; below = omega arith; untied = f.untied; stands = f.stands }
    by ih (inl t) (inr c) = absurd (omega (arith, count_suc m (is_untied ties), counted_false {t = is_untied ties m} (rw t) 1))
    by ih (inr t) (inr c) =
        let e : n + count_below m (is_untied ties) ≡ w = omega (arith, count_suc m (is_untied ties), counted_le (is_untied ties m) 1) in
        record { junction = m; below = omega arith; untied = t; stands = rw t e }

-- ---- as code finds them

-- The junction that stands at w, looked for in a list of all places.
pub standing_by_places : (n m : ℕ) (ties : Ties) (places : List ℕ) → ((v : ℕ) → v < m → get_or places v 0 ≡ placed n ties v) → (w : ℕ)
    → first_below m (λ v. eqb (get_or places v 0) w) ≡ standing_at n m ties w
unfolding standing_at
standing_by_places n m ties places h w =
    first_cong m (λ v. eqb (get_or places v 0) w) (λ v. eqb (placed n ties v) w) (λ v b. ap (λ x. eqb x w) (h v b))
