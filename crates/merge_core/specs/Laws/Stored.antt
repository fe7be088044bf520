-- Runs of stores: one more, one run behind another, and a run at the head of a buffer that is long enough. Every loop that writes cites it.
use Rattle.std.specs.Prelude.{ℕ, suc, ◌+◌, ◌≤◌, ◌<◌, ◌≡◌, refl, List, [], ◌∷◌, ◌++◌, length, get_or, set, take, drop}
use Rattle.std.proofs.Common.{add-one, arith, ap, sym, ◌∙◌, take-suc, take_all, length-take-le, take_at}
use Rattle.std.proofs.lemmas.List.Edits.{sets, sets-eq}
use Rattle.std.proofs.Math.Seq.{length-sets}

-- One run behind another.
pub sets_append : (xs ys l : List ℕ) (at : ℕ) → sets (sets l at xs) (at + length xs) ys ≡ sets l at (xs ++ ys)
sets_append [] ys l at = let e : at + 0 ≡ at = omega arith in ap (λ (k : ℕ). sets l k ys) e
sets_append (x ∷ xs) ys l at =
    let e : at + suc (length xs) ≡ suc at + length xs = omega arith in
    ap (λ (k : ℕ). sets (sets (set l at x) (suc at) xs) k ys) e ∙ sets_append xs ys (set l at x) (suc at)

-- A run at the head of a buffer that holds it: what is past its end keeps its values.
pub sets_head : (xs l : List ℕ) → length xs ≤ length l → sets l 0 xs ≡ xs ++ drop (length xs) l
sets_head xs l h =
    let e : 0 + length xs ≡ length xs = omega arith in
    sets-eq xs l 0 (rw e h) ∙ ap (λ (k : ℕ). xs ++ drop k l) e

pub take_sets : (xs l : List ℕ) → length xs ≤ length l → take (length xs) (sets l 0 xs) ≡ xs
take_sets xs l h = ap (take (length xs)) (sets_head xs l h) ∙ take_at xs (drop (length xs) l) (length xs) refl

-- A list is stored entry by entry: what stands there after i of them.
module _ (l ys : List ℕ) (at : ℕ) where
  pub run_more : (i : ℕ) {now : List ℕ} {x : ℕ} → now ≡ sets l at (take i ys) → i < length ys → x ≡ get_or ys i 0
      → set now (at + i) x ≡ sets l at (take (i + 1) ys)
  run_more i {now} {x} now_is b x_is =
      let long : at + i ≡ at + length (take i ys) = ap (λ (k : ℕ). at + k) (sym (length-take-le i ys (omega arith))) in
      ap (λ (y : ℕ). set now (at + i) y) x_is
      ∙ ap (λ (m : List ℕ). set m (at + i) (get_or ys i 0)) now_is
      ∙ ap (λ (k : ℕ). set (sets l at (take i ys)) k (get_or ys i 0)) long
      ∙ sets_append (take i ys) (get_or ys i 0 ∷ []) l at
      ∙ ap (sets l at) (sym (take-suc ys i 0 b))
      ∙ ap (λ (k : ℕ). sets l at (take k ys)) (sym (add-one i))

  pub run_end : (i : ℕ) {now : List ℕ} → now ≡ sets l at (take i ys) → length ys ≤ i → now ≡ sets l at ys
  run_end i now_is b = now_is ∙ ap (sets l at) (take_all i ys b)

  pub run_long : (i : ℕ) {now : List ℕ} → now ≡ sets l at (take i ys) → length now ≡ length l
  run_long i now_is = ap length now_is ∙ length-sets l at (take i ys)

-- The same from the head of the buffer on.
pub head_more : (l ys : List ℕ) (i : ℕ) {now : List ℕ} {x : ℕ} → now ≡ sets l 0 (take i ys) → i < length ys → x ≡ get_or ys i 0
    → set now i x ≡ sets l 0 (take (i + 1) ys)
head_more l ys i {now} {x} now_is b x_is =
    let e : i ≡ 0 + i = omega arith in ap (λ (k : ℕ). set now k x) e ∙ run_more l ys 0 i now_is b x_is

-- Two runs, one behind the other, from the head of the buffer on.
pub runs_both : (l xs ys : List ℕ) {one two : List ℕ} → one ≡ sets l 0 xs → two ≡ sets one (length xs) ys → two ≡ sets l 0 (xs ++ ys)
runs_both l xs ys {one} one_is two_is =
    let e : length xs ≡ 0 + length xs = omega arith in
    two_is
    ∙ ap (λ (k : ℕ). sets one k ys) e
    ∙ ap (λ (m : List ℕ). sets m (0 + length xs) ys) one_is
    ∙ sets_append xs ys l 0

pub runs_long : (l xs ys : List ℕ) (at : ℕ) {one two : List ℕ} → one ≡ sets l 0 xs → two ≡ sets one at ys → length two ≡ length l
runs_long l xs ys at {one} one_is two_is = ap length two_is ∙ length-sets one at ys ∙ ap length one_is ∙ length-sets l 0 xs
