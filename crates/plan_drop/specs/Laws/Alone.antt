-- Words of which each picked edge is alone in its bit: by the test, or by the definition for a forest. Pruning asks no more of them.
use Rattle.std.specs.Prelude.{◌≡◌, ℕ, suc, ◌+◌, ◌-◌, ◌<◌, ◌≤◌, Bool, true, false, not, ◌||◌, List, ◌==◌, ◌≢◌, slice_index, slice_index_or, slice_set}
use native.Mathlib.Omega.{arith}
use Rattle.std.proofs.Math.Decide.{ℕ_discrete}
use Rattle.std.proofs.Common.{add-one, ◌∙◌, ⊎_elim}
use Rattle.std.proofs.Math.Path.{refl, ap, sym}
use Rattle.std.specs.Int.Bits.{bit_xor}
use borrow.Author.Tests.{eqb-true, eq-eqb, ne_eqb, not-true}
use Rattle.base_finite.specs.Below.{count_below, all_below}
use Rattle.base_finite.specs.Laws.Below.{lt_or_ge, all_elim, get_d_tabulate}
use Rattle.base_finite.specs.Laws.Test.{or_cases, true_not_false, not_true_false}
use Rattle.theory_graph.specs.Path.{crosses, Forest}
use Rattle.format_record.specs.Bits.{bit_at}
use Rattle.plan_drop.specs.Side.{sides}
use Rattle.plan_drop.specs.Word.{word_bits, own_word, side_words, Alone, are_alone, CutEndsBelow, hung_at, hung_from}
use Rattle.plan_drop.specs.Taken.{taken_below}
use Rattle.plan_drop.specs.Laws.Side.{sides_cross}
use Rattle.plan_drop.specs.Laws.Word.{bit_xor_law, own_same, own_other, count_lt, word_side}
use Rattle.plan_drop.specs.Laws.Taken.{taken_words}

-- ---- the test

module _ (a b : ℕ → ℕ) (F : ℕ → Bool) (base : ℕ) (words : List ℕ) where
  -- The words of an edge's ends differ in its own bit alone, or it is not of F.
  abbrev own : ℕ → Bool
  own e = not (F e) || bit_xor (slice_index words (a e)) (slice_index words (b e)) == (own_word base (count_below e F))

  pub alone_none : are_alone a b F base 0 words ≡ true
  unfolding are_alone all_below
  alone_none = refl

  pub alone_more : (e : ℕ) → are_alone a b F base e words ≡ true → own e ≡ true → are_alone a b F base (e + 1) words ≡ true
  unfolding are_alone all_below
  alone_more e h k = rw (add-one e, h, k)

  pub alone_end : (m e : ℕ) → e ≤ m → m ≤ e → are_alone a b F base e words ≡ true → are_alone a b F base m words ≡ true
  alone_end m e l k h = let q : m ≡ e = omega arith in rw q h

  -- An edge that fails.
  pub alone_fails : (m e : ℕ) → e < m → own e ≡ false → are_alone a b F base m words ≡ false
  unfolding are_alone
  alone_fails m e l h =
      not_true_false (all_below m own) (λ t. true_not_false (own e) (all_elim m own t e l) h)

  own_word_at : (m e : ℕ) → are_alone a b F base m words ≡ true → e < m → F e ≡ true
      → bit_xor (slice_index words (a e)) (slice_index words (b e)) ≡ own_word base (count_below e F)
  unfolding are_alone
  own_word_at m e h l t =
      eqb-true _ _
      (⊎_elim (λ n. true_not_false (F e) t (not-true (F e) n)) (λ k. k) (or_cases (not (F e)) _ (all_elim m own h e l)))

  -- Of two edges of F only the same have one index.
  index_differs : (f g : ℕ) → F f ≡ true → F g ≡ true → (f ≢ g) → count_below g F ≢ count_below f F
  index_differs f g hf hg d e =
      ⊎_elim
      (λ (l : f < g). let k = count_lt g f F l hf in omega arith)
      (λ (l : g ≤ f). let n : g < f = omega (arith, d) in let k = count_lt f g F n hg in omega arith)
      (lt_or_ge f g)

  pub tried_alone : (m : ℕ) → are_alone a b F base m words ≡ true → Alone a b F base m words
  unfolding crosses
  tried_alone m h =
      record {
        crossed = λ f g k lf lg hf hg i c.
            sym (bit_xor_law (slice_index words (a g)) (slice_index words (b g)) k)
            ∙ ap (λ x. bit_at x k) (own_word_at m g h lg hg)
            ∙ by f g k hf hg i c (ℕ_discrete f g);
      }
    where
      by : (f g k : ℕ) → F f ≡ true → F g ≡ true → count_below f F ≡ base + k → k < word_bits → Dec (f ≡ g) → bit_at (own_word base (count_below g F)) k ≡ (f == g)
      by f g k hf hg i c (yes e) = own_same base (count_below g F) k (ap (λ x. count_below x F) (sym e) ∙ i) c ∙ sym (eq-eqb f g e)
      by f g k hf hg i c (no d) = own_other base (count_below g F) k (λ q. index_differs f g hf hg d (q ∙ sym i)) ∙ sym (ne_eqb f g d)

-- ---- the definition's words

pub taken_alone : (N : ℕ) (a b : ℕ → ℕ) (F : ℕ → Bool) (base m : ℕ) {words : List ℕ} → CutEndsBelow N a b m → Forest a b F
    → words ≡ (taken_below N a b F base m).words → Alone a b F base m words
unfolding crosses
taken_alone N a b F base m {words} ends forest h =
    record {
      crossed = λ f g k lf lg hf hg i c.
          rw (side f k lf hf i c (a g) (ends g lg).0, side f k lf hf i c (b g) (ends g lg).1) (sides_cross N a b F forest m f g lf lg hf hg);
    }
  where
    side : (f k : ℕ) → f < m → F f ≡ true → count_below f F ≡ base + k → k < word_bits → (v : ℕ) → v < N
        → bit_at (slice_index words v) k ≡ sides N a b F m f v
    side f k lf hf i c v l =
        ap (λ x. bit_at x k)
        (ap (λ x. slice_index x v) (h ∙ (taken_words N a b F base m (λ e q. (ends e q).0) (λ e q. (ends e q).1)).1)
        ∙ get_d_tabulate N (side_words N a b F base m) v 0 l)
        ∙ word_side N a b F base m f k lf hf i c v

-- ---- what calls leave

-- A picked edge, and another, as calls read them.
pub own_word_read : (base i : ℕ) (words : List ℕ) {in_set : Bool} {a b u v x y own : ℕ} → in_set ≡ true → u ≡ a → v ≡ b → x ≡ slice_index words u → y ≡ slice_index words v
    → own ≡ own_word base i → (bit_xor x y == own) ≡ (not in_set || bit_xor (slice_index words a) (slice_index words b) == (own_word base i))
own_word_read base i words t u v x y o = rw (t, x, y, u, v, o)

pub own_passed : (r : Bool) {in_set : Bool} → in_set ≡ false → true ≡ (not in_set || r)
own_passed r t = rw t

module _ (others marks : List ℕ) (base v : ℕ) (words : List ℕ) where
  pub hung_none : slice_index_or marks v 0 ≡ 0 → words ≡ hung_at others marks base v words
  unfolding hung_at
  hung_none h = rw (eq-eqb (slice_index marks v) 0 h)

  pub hung_by : {mark up at word own i : ℕ} {after : List ℕ} → mark ≡ slice_index marks v → (mark ≢ 0) → up ≡ slice_index others v → at ≡ v → word ≡ slice_index words up
      → own ≡ own_word base i → i ≡ mark - 1 → after ≡ slice_set words at (bit_xor word own) → after ≡ hung_at others marks base v words
  unfolding hung_at
  hung_by {mark} m d u a w o i r =
      r ∙ rw (ne_eqb (slice_index marks v) 0 (λ q. d (m ∙ q)), a, w, u, o, i, m)

module _ (order others marks : List ℕ) (base : ℕ) where
  pub hung_end : (k : ℕ) (words : List ℕ) → k ≤ 0 → words ≡ hung_from order others marks base k words
  unfolding hung_from
  hung_end k words h = let q : k ≡ 0 = omega arith in rw q

  -- One vertex less.
  pub hung_less : (k : ℕ) (words : List ℕ) {v : ℕ} {after whole : List ℕ} → 0 < k → hung_from order others marks base k words ≡ whole → v ≡ slice_index order (k - 1)
      → after ≡ hung_at others marks base v words → hung_from order others marks base (k - 1) after ≡ whole
  unfolding hung_from
  hung_less k words l h e r =
      let q : suc (k - 1) ≡ k = omega arith in
      ap (hung_from order others marks base (k - 1)) (r ∙ ap (λ u. hung_at others marks base u words) e) ∙ ap (λ j. hung_from order others marks base j words) q ∙ h
