-- The picked edges by themselves: whatever is not picked can be left out, one after the other, and the plan stays. `kept_alone` cites it.
use Prim.Native.Nat.{ℕ, zero, suc, ◌+◌, ◌-◌, ◌≤◌, ◌<◌}
use native.Mathlib.Omega.{arith}
use Rattle.std.proofs.Math.Numerals.{add-one}
use Rattle.std.specs.Prelude.{◌≡◌, ◌↔◌, Bool, length, replicate, ltb}
use Rattle.std.proofs.Math.Path.{refl, ap, sym, subst}
use Rattle.std.proofs.Common.{◌∙◌, lt-ltb, le-ltb}
use Rattle.std.proofs.Math.Logic.{⊎_elim}
use Rattle.std.proofs.Math.Bool.{true, false, cond}
use mathlib.Core.List.{List}
use Rattle.std.proofs.Math.ListN.{get_or, set, length-set}
use Rattle.std.proofs.Math.Seq.{get_or-set_same, get_or-set_other}
use Rattle.base_finite.specs.Below.{counted, count_below, sum_below, tabulate}
use Rattle.base_finite.specs.Laws.Below.{lt_or_ge}
use Rattle.base_buffer.proofs.Laws.Store.{tabulate_cong, replicate_table, set_table}
use Rattle.theory_steiner.specs.Problem.{Problem, Sound, Joins, all_usable, cost}
use Rattle.theory_steiner.specs.Growth.{grown}
use Rattle.theory_steiner.specs.Pruning.{picked, kept, dual_bound}
use Rattle.theory_steiner.specs.Closed.{skipping, omitting}
use Rattle.theory_steiner.proofs.Laws.Closed.{unpicked_picked, unpicked_plan, unpicked_joins}
use Rattle.theory_steiner.proofs.Laws.Omitted.{skipping_low, skipping_high, omitting_sound, omitted_picked, omitted_plan, omitted_joins}
use Rattle.closed_core.specs.Alone.{listed, old_number, choosing}

-- ---- the numbers

module _ (F : ℕ → Bool) where
  count_in : (e : ℕ) → F e ≡ true → count_below (suc e) F ≡ count_below e F + 1
  unfolding count_below sum_below counted
  count_in e h = ap (λ (t : Bool). count_below e F + counted t 1) h

  count_out : (e : ℕ) → F e ≡ false → count_below (suc e) F ≡ count_below e F
  unfolding count_below sum_below counted
  count_out e h = ap (λ (t : Bool). count_below e F + counted t 1) h ∙ omega arith

  count_grows : (e : ℕ) → count_below e F ≤ count_below (suc e) F
  count_grows e = by (F e) refl
    where
      by : (t : Bool) → F e ≡ t → count_below e F ≤ count_below (suc e) F
      by true h = omega (arith, count_in e h)
      by false h = omega (arith, count_out e h)

  old_in : (e i : ℕ) → F e ≡ true → old_number F (suc e) i ≡ old_number F e i
  unfolding old_number
  old_in e i h = ap (λ (t : Bool). cond t (old_number F e i) (old_number F e (skipping (count_below e F) i))) h

  old_out : (e i : ℕ) → F e ≡ false → old_number F (suc e) i ≡ old_number F e (skipping (count_below e F) i)
  unfolding old_number
  old_out e i h = ap (λ (t : Bool). cond t (old_number F e i) (old_number F e (skipping (count_below e F) i))) h

  -- Behind those of F the edges from e on stand as they stood.
  pub old_behind : (e j : ℕ) → old_number F e (count_below e F + j) ≡ e + j
  unfolding old_number count_below sum_below
  old_behind zero j = refl
  old_behind (suc e) j = by (old_behind e (suc j)) (F e) refl
    where
      by : old_number F e (count_below e F + suc j) ≡ e + suc j → (t : Bool) → F e ≡ t → old_number F (suc e) (count_below (suc e) F + j) ≡ suc e + j
      by next true h =
          let n = count_in e h in
          let z : count_below (suc e) F + j ≡ count_below e F + suc j = omega arith in
          old_in e (count_below (suc e) F + j) h ∙ ap (old_number F e) z ∙ next ∙ omega arith
      by next false h =
          let n = count_out e h in
          let z : suc (count_below (suc e) F + j) ≡ count_below e F + suc j = omega arith in
          old_out e (count_below (suc e) F + j) h
          ∙ ap (old_number F e) (skipping_high (count_below e F) (count_below (suc e) F + j) (omega arith) ∙ z)
          ∙ next
          ∙ omega arith

  old_last : (e : ℕ) → old_number F e (count_below e F) ≡ e
  old_last e =
      ap (old_number F e) (let z : count_below e F ≡ count_below e F + 0 = omega arith in z) ∙ old_behind e 0 ∙ omega arith

  abbrev Front : (e k : ℕ) → Type 0
  Front e k = (k < e) × (F k ≡ true)

  -- In front are those of F.
  pub old_front : (e i : ℕ) → i < count_below e F → Front e (old_number F e i)
  unfolding count_below sum_below
  old_front zero i b = absurd (omega arith)
  old_front (suc e) i b = by (λ c. let k = old_front e i c in (omega (arith, k.0), k.1)) (F e) refl
    where
      by : (i < count_below e F → Front (suc e) (old_number F e i)) → (t : Bool) → F e ≡ t → Front (suc e) (old_number F (suc e) i)
      by before true h =
          subst (Front (suc e)) (sym (old_in e i h))
          (⊎_elim before
          (λ c.
          let n = count_in e h in
          let z : i ≡ count_below e F = omega arith in
          subst (Front (suc e)) (sym (ap (old_number F e) z ∙ old_last e)) (omega arith, h))
          (lt_or_ge i (count_below e F)))
      by before false h =
          let n = count_out e h in
          let c : i < count_below e F = omega arith in
          subst (Front (suc e)) (sym (old_out e i h ∙ ap (old_number F e) (skipping_low (count_below e F) i c))) (before c)

  module _ (f : ℕ → ℕ) (l : List ℕ) where
    pub length_listed : (m : ℕ) → length (listed F f m l) ≡ length l
    unfolding listed
    length_listed zero = refl
    length_listed (suc m) = length-set (listed F f m l) (count_below m F) (f m) ∙ length_listed m

    -- One store more.
    pub listed_more : (e : ℕ) {now : List ℕ} {count x : ℕ} → now ≡ listed F f e l → count ≡ count_below e F → x ≡ f e → set now count x ≡ listed F f (e + 1) l
    unfolding listed
    listed_more e now_is count_is x_is = rw (now_is, count_is, x_is, add-one e) refl

    -- The loop has come to the end.
    pub listed_end : (n e : ℕ) {now : List ℕ} → e ≤ n → n ≤ e → now ≡ listed F f e l → now ≡ listed F f n l
    listed_end n e b c h = let z : e ≡ n = omega arith in h ∙ ap (λ (k : ℕ). listed F f k l) z

    -- What the loop stored for those of F.
    pub listed_at : (m i : ℕ) → count_below m F ≤ length l → i < count_below m F → get_or (listed F f m l) i 0 ≡ f (old_number F m i)
    unfolding listed count_below sum_below
    listed_at zero i fits b = absurd (omega arith)
    listed_at (suc m) i fits b =
        by (λ c. get_or-set_other (listed F f m l) (count_below m F) i (f m) 0 (λ h. omega arith) ∙ listed_at m i (omega (arith, fits, count_grows m)) c) (F m) refl
      where
        by : (i < count_below m F → get_or (listed F f (suc m) l) i 0 ≡ f (old_number F m i)) → (t : Bool) → F m ≡ t
            → get_or (listed F f (suc m) l) i 0 ≡ f (old_number F (suc m) i)
        by before true h =
            ⊎_elim before
            (λ c.
            let n = count_in m h in
            let z : i ≡ count_below m F = omega arith in
            ap (λ (k : ℕ). get_or (listed F f (suc m) l) k 0) z
            ∙ get_or-set_same (listed F f m l) (count_below m F) (f m) 0 (omega (arith, fits, n, length_listed m))
            ∙ ap f (sym (ap (old_number F m) z ∙ old_last m)))
            (lt_or_ge i (count_below m F))
            ∙ ap f (sym (old_in m i h))
        by before false h =
            let n = count_out m h in
            let c : i < count_below m F = omega arith in
            before c ∙ ap f (sym (old_out m i h ∙ ap (old_number F m) (skipping_low (count_below m F) i c)))

  -- A 1 for each.
  pub listed_ones : (N m : ℕ) → listed F (λ e. counted (F e) 1) m (replicate N 0) ≡ tabulate N (λ i. counted (ltb i (count_below m F)) 1)
  unfolding listed count_below sum_below counted tabulate
  listed_ones N zero = replicate_table N 0 ∙ tabulate_cong N _ _ (λ i b. sym (ap (λ (t : Bool). counted t 1) (le-ltb i 0 (omega arith))))
  listed_ones N (suc m) =
      ap (λ (l : List ℕ). set l (count_below m F) (counted (F m) 1)) (listed_ones N m)
      ∙ set_table N _ (λ i. counted (ltb i (count_below (suc m) F)) 1) (count_below m F) (counted (F m) 1) (here (F m) refl) (λ k apart. there k apart (F m) refl)
    where
      here : (t : Bool) → F m ≡ t → counted (F m) 1 ≡ counted (ltb (count_below m F) (count_below (suc m) F)) 1
      here true h = let n = count_in m h in ap (λ (t : Bool). counted t 1) (h ∙ sym (lt-ltb (count_below m F) (count_below (suc m) F) (omega arith)))
      here false h = let n = count_out m h in ap (λ (t : Bool). counted t 1) (h ∙ sym (le-ltb (count_below m F) (count_below (suc m) F) (omega arith)))

      there : (k : ℕ) → (k ≡ count_below m F → ⊥) → (t : Bool) → F m ≡ t → counted (ltb k (count_below m F)) 1 ≡ counted (ltb k (count_below (suc m) F)) 1
      there k apart true h =
          let n = count_in m h in
          ap (λ (t : Bool). counted t 1)
          (⊎_elim
          (λ c. lt-ltb k (count_below m F) c ∙ sym (lt-ltb k (count_below (suc m) F) (omega arith)))
          (λ c.
          ⊎_elim
          (λ d. absurd (apart (omega arith)))
          (λ d. le-ltb k (count_below m F) c ∙ sym (le-ltb k (count_below (suc m) F) d))
          (lt_or_ge k (count_below (suc m) F)))
          (lt_or_ge k (count_below m F)))
      there k apart false h = ap (λ (n : ℕ). counted (ltb k n) 1) (sym (count_out m h))

-- ---- the plan

-- q has the edges `old` of p, and p's plan.
pub record SamePicks (p q : Problem) (old : ℕ → ℕ) : Type 0 where
  pub sound : Sound q
  pub picks : (i : ℕ) → picked q i ≡ picked p (old i)
  pub same_cost : cost q (kept q) ≡ cost p (kept p)
  pub same_bound : dual_bound q (grown q) ≡ dual_bound p (grown p)
  pub same_joins : Joins q (all_usable q) ↔ Joins p (all_usable p)

-- One that is not picked is left out.
one_less_law : (p q : Problem) (old : ℕ → ℕ) (c : ℕ) → SamePicks p q old → c < q.edges → picked q c ≡ false
    → SamePicks p (omitting q c) (λ i. old (skipping c i))
one_less_law p q old c same known free =
    let shut = unpicked_plan q same.sound c free in
    let left = omitted_plan q c known in
    record {
      sound = omitting_sound q c known same.sound;
      picks = λ i.
          omitted_picked q c known i
          ∙ ap (λ (G : ℕ → Bool). G (skipping c i)) (unpicked_picked q same.sound c free)
          ∙ same.picks (skipping c i);
      same_cost = left.same_cost ∙ shut.same_cost ∙ same.same_cost;
      same_bound = left.same_bound ∙ shut.same_bound ∙ same.same_bound;
      same_joins = (
        λ h. same.same_joins.0 ((unpicked_joins q c same.sound free).1 ((omitted_joins q c known).0 h)),
        λ h. (omitted_joins q c known).1 ((unpicked_joins q c same.sound free).0 (same.same_joins.1 h)),
      );
    }

module _ (p : Problem) (ok : Sound p) where
  abbrev F : ℕ → Bool
  F = picked p

  abbrev Same : (ℕ → ℕ) → (k : ℕ) → Type 0
  Same old k = SamePicks p (choosing p old k) old

  abbrev next : (e : ℕ) → Bool → ℕ → ℕ
  next e t i = cond t (old_number F e i) (old_number F e (skipping (count_below e F) i))

  -- Those below e that are not picked are left out.
  pub picked_below : (e k : ℕ) → e ≤ p.edges → k ≡ count_below e F + (p.edges - e) → Same (old_number F e) k
  unfolding old_number count_below sum_below
  picked_below zero k b k_is =
      let z : p.edges ≡ k = omega arith in
      subst (Same (old_number F zero)) z
      (record { sound = ok; picks = λ i. refl; same_cost = refl; same_bound = refl; same_joins = (λ h. h, λ h. h) })
  picked_below (suc e) k b k_is =
      by (λ known. picked_below e k (omega arith) known) (λ known. picked_below e (suc k) (omega arith) known) (F e) refl
    where
      by : (k ≡ count_below e F + (p.edges - e) → Same (old_number F e) k) → (suc k ≡ count_below e F + (p.edges - e) → Same (old_number F e) (suc k))
          → (t : Bool) → F e ≡ t → Same (old_number F (suc e)) k
      by stays goes true h = let n = count_in F e h in subst (λ (t : Bool). Same (next e t) k) (sym h) (stays (omega arith))
      by stays goes false h =
          let n = count_out F e h in
          let same : Same (old_number F e) (suc k) = goes (omega arith) in
          let z : suc k - 1 ≡ k = omega arith in
          subst (λ (t : Bool). Same (next e t) k) (sym h)
          (subst (Same (next e false)) z
          (one_less_law p (choosing p (old_number F e) (suc k)) (old_number F e) (count_below e F) same (omega arith)
          (same.picks (count_below e F) ∙ ap F (old_last F e) ∙ h)))
