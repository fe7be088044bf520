-- Entries whose places pass a test: the entry at i stands at the number of those that pass before it, and every entry comes from such a place.
use Prim.Native.Nat.{ℕ, zero, suc, ◌+◌, ◌<◌, ◌≤◌}
use native.Mathlib.Omega.{arith}
use Rattle.std.proofs.Common.{add-one, ◌∙◌, subst, drop-cons}
use Rattle.std.specs.Prelude.{◌≡◌, Bool}
use Rattle.std.proofs.Math.Path.{refl, ap, sym}
use Rattle.std.proofs.Math.Logic.{⊎_elim}
use Rattle.std.proofs.Math.Bool.{true, false, cond}
use mathlib.Core.List.{List, [], ◌∷◌, ◌++◌, append_assoc, append-nil}
use Rattle.std.proofs.Math.ListN.{length, get_or, set, drop, length-append, length-drop, get_or-append}
use Rattle.std.proofs.Math.Seq.{get_or_at, set_at}
use Rattle.base_finite.specs.Below.{counted, sum_below, count_below}
use Rattle.base_finite.specs.Laws.Test.{either}
use Rattle.base_finite.specs.Laws.Below.{below_suc, lt_or_ge, counted_true, counted_false, count_le}
use Rattle.winter_core.specs.Bit.{passing, passed}

length_one : (b : Bool) (x : ℕ) → length (cond b (x ∷ []) []) ≡ counted b 1
unfolding counted
length_one true x = refl
length_one false x = refl

-- The place that entry j comes from.
pub record Source (t : ℕ → Bool) (n j : ℕ) : Type 0 where
  pub at : ℕ
  pub below : at < n
  pub passes : t at ≡ true
  pub rank : count_below at t ≡ j

module _ (t : ℕ → Bool) where
  pub count_more : (i : ℕ) → count_below (suc i) t ≡ count_below i t + counted (t i) 1
  unfolding count_below sum_below
  count_more i = refl

  pub length_passing : (l : List ℕ) (n : ℕ) → length (passing t l n) ≡ count_below n t
  unfolding passing count_below sum_below
  length_passing l zero = refl
  length_passing l (suc n) =
      length-append (passing t l n) (cond (t n) (get_or l n 0 ∷ []) [])
      ∙ ap (λ k. k + length (cond (t n) (get_or l n 0 ∷ []) [])) (length_passing l n)
      ∙ ap (λ k. count_below n t + k) (length_one (t n) (get_or l n 0))

  pub count_mono : (i n : ℕ) → i ≤ n → count_below i t ≤ count_below n t
  count_mono i zero b = let e : i ≡ 0 = omega arith in omega (arith, ap (λ k. count_below k t) e)
  count_mono i (suc n) b =
      ⊎_elim
      (λ c. omega (arith, count_mono i n (omega arith), count_more n))
      (λ (c : suc n ≤ i). let e : i ≡ suc n = omega arith in omega (arith, ap (λ k. count_below k t) e))
      (lt_or_ge i (suc n))

  pub count_strict : (i n : ℕ) → i < n → t i ≡ true → count_below i t < count_below n t
  count_strict i n b h = omega (arith, count_mono (suc i) n (omega arith), count_more i, counted_true h 1)

  -- The entry at i, where it passes.
  pub passing_at : (l : List ℕ) (n i : ℕ) → i < n → t i ≡ true → get_or (passing t l n) (count_below i t) 0 ≡ get_or l i 0
  unfolding passing
  passing_at l zero i b h = absurd (omega arith)
  passing_at l (suc n) i b h =
      ⊎_elim
      (λ c.
      get_or-append (passing t l n) (cond (t n) (get_or l n 0 ∷ []) []) 0 (count_below i t)
      (subst (λ k. count_below i t < k) (sym (length_passing l n)) (count_strict i n c h))
      ∙ passing_at l n i c h)
      (λ e.
      ap (λ (b : Bool). get_or (passing t l n ++ cond b (get_or l n 0 ∷ []) []) (count_below i t) 0) (ap t (sym e) ∙ h)
      ∙ get_or_at (passing t l n) (get_or l n 0) [] 0 (count_below i t) (length_passing l n ∙ ap (λ k. count_below k t) (sym e))
      ∙ ap (λ k. get_or l k 0) (sym e))
      (below_suc i n b)

  -- Entry j comes from a place that passes.
  pub source : (n j : ℕ) → j < count_below n t → Source t n j
  unfolding count_below sum_below
  source zero j b = absurd (omega arith)
  source (suc n) j b =
      ⊎_elim
      (λ c.
      let f : Source t n j = source n j c in
      record { at = f.at; below = let x = f.below in omega arith; passes = f.passes; rank = f.rank })
      (λ c.
      ⊎_elim
      (λ h. record { at = n; below = omega arith; passes = h; rank = omega (arith, count_more n, counted_true h 1) })
      (λ h. absurd (omega (arith, count_more n, counted_false h 1)))
      (either (t n)))
      (lt_or_ge j (count_below n t))

  -- ---- entries stored one after the other

  module _ (l room : List ℕ) where
    pub passed_start : room ≡ passed t l room 0
    unfolding passed passing count_below sum_below
    passed_start = refl

    pub length_passed : (n : ℕ) → n ≤ length room → length (passed t l room n) ≡ length room
    unfolding passed
    length_passed n b =
        omega (arith, length-append (passing t l n) (drop (count_below n t) room), length_passing l n, length-drop (count_below n t) room, count_le n t)

    stored : (n : ℕ) → n < length room → (b : Bool) (x : ℕ)
        → cond b (set (passing t l n ++ drop (count_below n t) room) (count_below n t) x) (passing t l n ++ drop (count_below n t) room)
        ≡ (passing t l n ++ cond b (x ∷ []) []) ++ drop (count_below n t + counted b 1) room
    unfolding counted
    stored n below true x =
        let fits : count_below n t < length room = omega (arith, count_le n t) in
        ap (λ (d : List ℕ). set (passing t l n ++ d) (count_below n t) x) (drop-cons room (count_below n t) 0 fits)
        ∙ set_at (passing t l n) (get_or room (count_below n t) 0) (drop (suc (count_below n t)) room) x (count_below n t) (length_passing l n)
        ∙ sym (append_assoc (passing t l n) (x ∷ []) (drop (suc (count_below n t)) room))
        ∙ ap (λ k. (passing t l n ++ (x ∷ [])) ++ drop k room) (sym (add-one (count_below n t)))
    stored n below false x =
        let same : count_below n t ≡ count_below n t + 0 = omega arith in
        ap (λ k. passing t l n ++ drop k room) same
        ∙ ap (λ (p : List ℕ). p ++ drop (count_below n t + 0) room) (sym (append-nil (passing t l n)))

    -- The entry at n is stored behind the others, if it passes.
    pub passed_more : (n : ℕ) → n < length room → {now after : List ℕ} {b : Bool} {x at : ℕ} → now ≡ passed t l room n → b ≡ t n → x ≡ get_or l n 0
        → at ≡ count_below n t → after ≡ cond b (set now at x) now → after ≡ passed t l room (n + 1)
    unfolding passed passing
    passed_more n below {now} {after} {b} {x} {at} now_is b_is x_is at_is after_is =
        after_is
        ∙ ap (λ (k : ℕ). cond b (set now k x) now) at_is
        ∙ ap (λ (y : ℕ). cond b (set now (count_below n t) y) now) x_is
        ∙ ap (λ (c : Bool). cond c (set now (count_below n t) (get_or l n 0)) now) b_is
        ∙ ap (λ (w : List ℕ). cond (t n) (set w (count_below n t) (get_or l n 0)) w) now_is
        ∙ stored n below (t n) (get_or l n 0)
        ∙ ap (λ k. (passing t l n ++ cond (t n) (get_or l n 0 ∷ []) []) ++ drop k room) (sym (count_more n))
        ∙ ap (λ k. passing t l k ++ drop (count_below k t) room) (sym (add-one n))

    pub passed_end : {n i : ℕ} → i ≤ n → n ≤ i → passed t l room i ≡ passed t l room n
    passed_end {n} {i} b c = let e : i ≡ n = omega arith in rw e
