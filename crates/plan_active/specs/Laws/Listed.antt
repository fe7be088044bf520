-- A search through the list of those that pass a test is a search through all of them.
use Prim.Native.Nat.{ℕ, zero, suc, ◌+◌, ◌<◌, ◌≤◌}
use Rattle.std.proofs.Common.{arith, ap₂, sym, ◌∙◌, length-set, eq-eqb, ne_eqb, get_or-set_same, get_or-set_other}
use Rattle.std.proofs.Math.Numerals.{add-one}
use Rattle.std.specs.Prelude.{◌≡◌, Bool, true, false, ◌&&◌, ◌||◌, cond, List, length, set}
use Rattle.std.proofs.Math.Path.{refl, ap}
use Rattle.std.proofs.Math.Bool.{not, or-false}
use Rattle.std.proofs.Math.ListN.{get_or}
use Rattle.base_finite.specs.Below.{counted, sum_below, count_below, any_below}
use Rattle.base_finite.specs.Laws.Below.{any_cong, count_le}
use Rattle.base_finite.specs.Laws.Count.{count_more}
use Rattle.plan_active.specs.Flags.{has_mate, gathered}

set_long : (b : Bool) (l : List ℕ) (i x : ℕ) → length (cond b (set l i x) l) ≡ length l
set_long true l i x = length-set l i x
set_long false l i x = refl

module _ (t : ℕ → Bool) (l : List ℕ) where
  pub length_gathered : (n : ℕ) → length (gathered t n l) ≡ length l
  unfolding gathered
  length_gathered zero = refl
  length_gathered (suc n) = set_long (t n) (gathered t n l) (count_below n t) n ∙ length_gathered n

  -- One more, as a call leaves the list.
  pub gathered_more : (v : ℕ) {now after : List ℕ} {count : ℕ} → now ≡ gathered t v l → count ≡ count_below v t
      → after ≡ cond (t v) (set now count v) now → after ≡ gathered t (v + 1) l
  unfolding gathered
  gathered_more v h c k = k ∙ rw (h, c, add-one v)

  pub gathered_end : (n v : ℕ) {now : List ℕ} → v ≤ n → n ≤ v → now ≡ gathered t v l → now ≡ gathered t n l
  gathered_end n v b c h = let e : n ≡ v = omega arith in rw e h

-- The count after one more, as a call answers it.
pub count_next : (v : ℕ) (t : ℕ → Bool) {count next : ℕ} → count ≡ count_below v t → next ≡ count + counted (t v) 1 → next ≡ count_below (v + 1) t
count_next v t h k = k ∙ count_more v t h refl

-- Whether a vertex has a mate, as a call reads it.
module _ (mates : List ℕ) (v : ℕ) {i read : ℕ} (h : read ≡ get_or mates i 0) (k : i ≡ v) where
  pub own_mate : read ≡ v → has_mate mates v ≡ false
  unfolding has_mate
  own_mate e = ap not (eq-eqb (get_or mates v 0) v (sym (h ∙ ap (λ j. get_or mates j 0) k) ∙ e))

  pub other_mate : (read ≡ v → ⊥) → has_mate mates v ≡ true
  unfolding has_mate
  other_mate d = ap not (ne_eqb (get_or mates v 0) v (λ e. d (h ∙ ap (λ j. get_or mates j 0) k ∙ e)))

-- A search that meets one more at the end.
any_set : (f : ℕ → Bool) (l : List ℕ) (c x : ℕ) → c < length l → any_below (suc c) (λ k. f (get_or (set l c x) k 0)) ≡ (any_below c (λ k. f (get_or l k 0)) || f x)
unfolding any_below
any_set f l c x h =
    ap₂ (λ s t. s || t)
    (any_cong c (λ k. f (get_or (set l c x) k 0)) (λ k. f (get_or l k 0)) (λ k b. ap f (get_or-set_other l c k x 0 (λ e. omega arith))))
    (ap f (get_or-set_same l c x 0 h))

any_met : (f : ℕ → Bool) (l : List ℕ) (c x : ℕ) → c < length l → (b : Bool)
    → any_below (c + counted b 1) (λ k. f (get_or (cond b (set l c x) l) k 0)) ≡ (any_below c (λ k. f (get_or l k 0)) || (b && f x))
unfolding counted
any_met f l c x h true = ap (λ i. any_below i (λ k. f (get_or (set l c x) k 0))) (add-one c) ∙ any_set f l c x h
any_met f l c x h false = ap (λ i. any_below i (λ k. f (get_or l k 0))) (omega arith) ∙ sym (or-false (any_below c (λ k. f (get_or l k 0))))

pub any_gathered : (t f : ℕ → Bool) (n : ℕ) (l : List ℕ) → n ≤ length l → any_below (count_below n t) (λ k. f (get_or (gathered t n l) k 0)) ≡ any_below n (λ v. t v && f v)
unfolding gathered count_below sum_below any_below
any_gathered t f zero l h = refl
any_gathered t f (suc n) l h =
    let few : count_below n t ≤ n = count_le n t in
    let long : length (gathered t n l) ≡ length l = length_gathered t l n in
    any_met f (gathered t n l) (count_below n t) n (omega arith) (t n)
    ∙ ap (λ s. s || (t n && f n)) (any_gathered t f n l (omega arith))
