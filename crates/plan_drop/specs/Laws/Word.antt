-- The words hold the sides: bit k of a vertex's word is its side of the edge with index base + k, and 0 before that edge comes.
use Rattle.std.specs.Prelude.{◌≡◌, ℕ, zero, suc, ◌+◌, ◌-◌, ◌/◌, ◌%◌, ◌^◌, ◌<◌, ◌≤◌, Bool, true, false, cond, ◌&&◌, ◌⊎◌, List, length, ◌==◌, ◌≢◌, nat_eq, nat_le, nat_lt, slice_index}
use Rattle.std.proofs.Common.{arith, add-one, sym, ◌∙◌, inl, inr}
use Rattle.std.proofs.Math.Decide.{ℕ_discrete}
use Rattle.std.proofs.Math.Path.{refl, ap}
use Rattle.std.proofs.Math.Logic.{⊎_elim}
use Rattle.std.proofs.Math.Bool.{xor}
use Rattle.std.specs.Int.Bits.{bit_xor}
use Rattle.std.proofs.lemmas.Nat.{xor_shr, xor_mod}
use borrow.Author.Tests.{eqb-true, eq-eqb, ne_eqb, lt-ltb, leb-true, le-leb, lt-leb, le-ltb}
use Rattle.base_finite.specs.Below.{counted, sum_below, count_below, tabulate}
use Rattle.base_finite.specs.Laws.Below.{below_suc, counted_true, counted_false, length_tabulate, get_d_tabulate, sum_suc}
use Rattle.base_finite.specs.Laws.Test.{either, and_left, and_right, and_both, not_true_false, true_not_false}
use Rattle.theory_graph.specs.Component.{components}
use Rattle.format_record.specs.Bits.{bit_at, with_bit}
use Rattle.format_record.proofs.Laws.Bits.{bit_of_zero, bit_set, bit_set_other, with_bit_clear}
use Rattle.base_buffer.proofs.Laws.Store.{remade_table, tabulate_cong}
use Rattle.survey_components.specs.Buffer.{relabelled, ends_joined}
use Rattle.plan_drop.specs.Side.{side_step, sides}
use Rattle.plan_drop.specs.Word.{word_bits, in_batch, own_word, turned, side_words, turned_all, edge_taken}

-- ---- bits

odd_xor : (x y : ℕ) → x < 2 → y < 2 → (bit_xor x y == 1) ≡ xor (x == 1) (y == 1)
unfolding xor
odd_xor zero zero h k = refl
odd_xor zero (suc zero) h k = refl
odd_xor (suc zero) zero h k = refl
odd_xor (suc zero) (suc zero) h k = refl
odd_xor (suc (suc x)) y h k = absurd (omega arith)
odd_xor zero (suc (suc y)) h k = absurd (omega arith)
odd_xor (suc zero) (suc (suc y)) h k = absurd (omega arith)

pub bit_xor_law : (x y k : ℕ) → bit_at (bit_xor x y) k ≡ xor (bit_at x k) (bit_at y k)
unfolding bit_at
bit_xor_law x y k =
    let low : bit_xor (x / 2 ^ k) (y / 2 ^ k) % 2 ≡ bit_xor (x / 2 ^ k % 2) (y / 2 ^ k % 2) = xor_mod (x / 2 ^ k) (y / 2 ^ k) 1 in
    ap (λ z. nat_eq (z % 2) 1) (xor_shr x y k)
    ∙ ap (λ z. nat_eq z 1) low
    ∙ odd_xor (x / 2 ^ k % 2) (y / 2 ^ k % 2) (omega arith) (omega arith)

bit_counted : (t : Bool) (x k : ℕ) → bit_at (counted t x) k ≡ (t && bit_at x k)
bit_counted true x k = ap (λ z. bit_at z k) (counted_true refl x)
bit_counted false x k = ap (λ z. bit_at z k) (counted_false refl x) ∙ bit_of_zero k

power_with : (k : ℕ) → 2 ^ k ≡ with_bit 0 k
power_with k = omega (arith, with_bit_clear 0 k (bit_of_zero k))

bit_power : (k j : ℕ) → bit_at (2 ^ k) j ≡ (j == k)
bit_power k j = by (ℕ_discrete j k)
  where
    by : Dec (j ≡ k) → bit_at (2 ^ k) j ≡ (j == k)
    by (yes e) = rw e (ap (λ z. bit_at z k) (power_with k) ∙ bit_set 0 k ∙ sym (eq-eqb k k refl))
    by (no d) = ap (λ z. bit_at z j) (power_with k) ∙ bit_set_other 0 k j d ∙ bit_of_zero j ∙ sym (ne_eqb j k d)

-- ---- the bit of an index

pub own_before : (base i : ℕ) → i < base → own_word base i ≡ 0
unfolding own_word in_batch
own_before base i h = counted_false (ap (λ t. t && nat_lt (i - base) word_bits) (lt-leb base i h)) (2 ^ (i - base))

pub own_after : (base i : ℕ) → base ≤ i → word_bits ≤ i - base → own_word base i ≡ 0
unfolding own_word in_batch
own_after base i l h =
    counted_false (ap (λ t. t && nat_lt (i - base) word_bits) (le-leb base i l) ∙ le-ltb (i - base) word_bits h) (2 ^ (i - base))

pub own_in : (base i : ℕ) → base ≤ i → i - base < word_bits → own_word base i ≡ 2 ^ (i - base)
unfolding own_word in_batch
own_in base i l h =
    counted_true (and_both (nat_le base i) (nat_lt (i - base) word_bits) (le-leb base i l) (lt-ltb (i - base) word_bits h)) (2 ^ (i - base))

pub own_same : (base i k : ℕ) → i ≡ base + k → k < word_bits → bit_at (own_word base i) k ≡ true
unfolding own_word in_batch
own_same base i k e b =
    let z : i - base ≡ k = omega arith in
    let t : (nat_le base i && nat_lt (i - base) word_bits) ≡ true = and_both _ _ (le-leb base i (omega arith)) (lt-ltb (i - base) word_bits (omega arith)) in
    bit_counted (nat_le base i && nat_lt (i - base) word_bits) (2 ^ (i - base)) k ∙ rw (t, z) (bit_power k k ∙ eq-eqb k k refl)

pub own_other : (base i k : ℕ) → (i ≡ base + k → ⊥) → bit_at (own_word base i) k ≡ false
unfolding own_word in_batch
own_other base i k d =
    bit_counted (nat_le base i && nat_lt (i - base) word_bits) (2 ^ (i - base)) k
    ∙ not_true_false
    _
    (λ h.
    let l : base ≤ i = leb-true base i (and_left _ _ (and_left (nat_le base i && nat_lt (i - base) word_bits) (bit_at (2 ^ (i - base)) k) h)) in
    let e : k ≡ i - base =
    eqb-true k (i - base) (sym (bit_power (i - base) k) ∙ and_right (nat_le base i && nat_lt (i - base) word_bits) (bit_at (2 ^ (i - base)) k) h) in
    d (omega arith))

-- ---- one more edge

xor_false : (t : Bool) → xor t false ≡ t
unfolding xor
xor_false true = refl
xor_false false = refl

and_false : (t : Bool) → (t && false) ≡ false
and_false true = refl
and_false false = refl

and_true : (t : Bool) → (t && true) ≡ t
and_true true = refl
and_true false = refl

xor_into : (t : Bool) → xor false t ≡ t
unfolding xor
xor_into true = refl
xor_into false = refl

bit_turned : (x y delta own label word k : ℕ)
    → bit_at (turned x y delta own label word) k ≡ xor (xor (bit_at word k) (label == y && bit_at delta k)) (label == x && bit_at own k)
unfolding turned
bit_turned x y delta own label word k =
    bit_xor_law (bit_xor word (counted (label == y) delta)) (counted (label == x) own) k
    ∙ ap (λ t. xor (bit_at (bit_xor word (counted (label == y) delta)) k) t) (bit_counted (label == x) own k)
    ∙ ap (λ t. xor t (label == x && bit_at own k)) (bit_xor_law word (counted (label == y) delta) k ∙ ap (xor (bit_at word k)) (bit_counted (label == y) delta k))

module _ (a b : ℕ → ℕ) (label word : ℕ → ℕ) (e own k : ℕ) where
  abbrev next : ℕ → ℕ
  next w = turned (label (a e)) (label (b e)) (bit_xor (word (a e)) (word (b e))) own (label w) (word w)

  next_bit : (w : ℕ) → bit_at (next w) k
      ≡ xor (xor (bit_at (word w) k) (label w == label (b e) && xor (bit_at (word (a e)) k) (bit_at (word (b e)) k))) (label w == label (a e) && bit_at own k)
  next_bit w =
      bit_turned (label (a e)) (label (b e)) (bit_xor (word (a e)) (word (b e))) own (label w) (word w) k
      ∙ ap
      (λ t. xor (xor (bit_at (word w) k) (label w == label (b e) && t)) (label w == label (a e) && bit_at own k))
      (bit_xor_law (word (a e)) (word (b e)) k)

  -- a bit that no edge has yet
  next_none : ((v : ℕ) → bit_at (word v) k ≡ false) → (w : ℕ) → xor (bit_at (word w) k) (label w == label (b e) && xor (bit_at (word (a e)) k) (bit_at (word (b e)) k)) ≡ false
  next_none old w =
      rw (old w, old (a e), old (b e)) (xor_into (label w == label (b e) && xor false false) ∙ ap (λ t. (label w == label (b e)) && t) (xor_false false) ∙ and_false (label w == label (b e)))

  next_fresh : bit_at own k ≡ false → ((v : ℕ) → bit_at (word v) k ≡ false) → (w : ℕ) → bit_at (next w) k ≡ false
  next_fresh o old w = next_bit w ∙ rw (next_none old w, o) (xor_into (label w == label (a e) && false) ∙ and_false (label w == label (a e)))

  -- the new edge's own bit
  next_own : (side : ℕ → Bool) → bit_at own k ≡ true → ((v : ℕ) → bit_at (word v) k ≡ false) → (w : ℕ) → bit_at (next w) k ≡ side_step a b label e e side w
  unfolding side_step
  next_own side o old w =
      next_bit w
      ∙ rw (next_none old w, o, eq-eqb e e refl) (xor_into (label w == label (a e) && true) ∙ and_true (label w == label (a e)))

  -- an older edge's bit
  next_older : (f : ℕ) (side : ℕ → Bool) → (f ≢ e) → bit_at own k ≡ false → ((v : ℕ) → bit_at (word v) k ≡ side v) → (w : ℕ)
      → bit_at (next w) k ≡ side_step a b label e f side w
  unfolding side_step
  next_older f side d o old w =
      next_bit w
      ∙ rw
      (ne_eqb f e d, o, old w, old (a e), old (b e), and_false (label w == label (a e)))
      (xor_false (xor (side w) (label w == label (b e) && xor (side (a e)) (side (b e)))))

pub count_suc : (e : ℕ) (F : ℕ → Bool) → count_below (suc e) F ≡ count_below e F + counted (F e) 1
unfolding count_below
count_suc e F = sum_suc e (λ i. counted (F i) 1)

-- Lower edges of F have lower indexes.
pub count_lt : (e f : ℕ) (F : ℕ → Bool) → f < e → F f ≡ true → count_below f F < count_below e F
count_lt zero f F b h = absurd (omega arith)
count_lt (suc e) f F b h =
    ⊎_elim
    (λ l. let i : count_below f F < count_below e F = count_lt e f F l h in omega (arith, count_suc e F))
    (λ q. let t : F e ≡ true = ap F (sym q) ∙ h in let z : count_below f F ≡ count_below e F = ap (λ x. count_below x F) q in omega (arith, count_suc e F, counted_true t 1))
    (below_suc f e b)

-- ---- all edges

module _ (n : ℕ) (a b : ℕ → ℕ) (F : ℕ → Bool) (base : ℕ) where
  words_taken : (e : ℕ) → F e ≡ true → (w : ℕ) → side_words n a b F base (suc e) w
      ≡ next a b (components n a b F e) (side_words n a b F base e) e (own_word base (count_below e F)) 0 w
  unfolding side_words
  words_taken e t w = rw t

  words_passed : (e : ℕ) → F e ≡ false → (w : ℕ) → side_words n a b F base (suc e) w ≡ side_words n a b F base e w
  unfolding side_words
  words_passed e t w = rw t

  sides_taken : (e f : ℕ) → F e ≡ true → (w : ℕ) → sides n a b F (suc e) f w ≡ side_step a b (components n a b F e) e f (sides n a b F e f) w
  unfolding sides
  sides_taken e f t w = rw t

  sides_passed : (e f : ℕ) → F e ≡ false → (w : ℕ) → sides n a b F (suc e) f w ≡ sides n a b F e f w
  unfolding sides
  sides_passed e f t w = rw t

  -- The bit of an edge that is yet to come.
  word_fresh : (m k : ℕ) → count_below m F ≤ base + k → (w : ℕ) → bit_at (side_words n a b F base m w) k ≡ false
  unfolding side_words
  word_fresh zero k h w = bit_of_zero k
  word_fresh (suc e) k h w =
      let old : (v : ℕ) → bit_at (side_words n a b F base e v) k ≡ false = word_fresh e k (omega (arith, count_suc e F)) in
      ⊎_elim
      (λ t.
      let c : count_below e F < base + k = omega (arith, count_suc e F, counted_true t 1) in
      ap (λ z. bit_at z k) (words_taken e t w)
      ∙ next_fresh a b (components n a b F e) (side_words n a b F base e) e (own_word base (count_below e F)) k
      (own_other base (count_below e F) k (λ q. omega arith)) old w)
      (λ t. ap (λ z. bit_at z k) (words_passed e t w) ∙ old w)
      (either (F e))

  -- Bit k holds the side of the edge with index base + k.
  pub word_side : (m f k : ℕ) → f < m → F f ≡ true → count_below f F ≡ base + k → k < word_bits → (w : ℕ)
      → bit_at (side_words n a b F base m w) k ≡ sides n a b F m f w
  word_side zero f k l h i c w = absurd (omega arith)
  word_side (suc e) f k l h i c w = by (either (F e)) (below_suc f e l) (λ x. word_side e f k x h i c)
    where
      by : (F e ≡ true) ⊎ (F e ≡ false) → (f < e) ⊎ (f ≡ e) → (f < e → (v : ℕ) → bit_at (side_words n a b F base e v) k ≡ sides n a b F e f v)
          → bit_at (side_words n a b F base (suc e) w) k ≡ sides n a b F (suc e) f w
      by (inr t) (inl x) old = ap (λ z. bit_at z k) (words_passed e t w) ∙ old x w ∙ sym (sides_passed e f t w)
      by (inr t) (inr x) old = true_not_false (F e) (ap F (sym x) ∙ h) t
      by (inl t) (inl x) old =
          let d : count_below f F < count_below e F = count_lt e f F x h in
          ap (λ z. bit_at z k) (words_taken e t w)
          ∙ next_older a b (components n a b F e) (side_words n a b F base e) e (own_word base (count_below e F)) k f (sides n a b F e f) (λ q. omega arith)
          (own_other base (count_below e F) k (λ q. omega arith)) (old x) w
          ∙ sym (sides_taken e f t w)
      by (inl t) (inr x) old =
          let q : count_below e F ≡ base + k = ap (λ z. count_below z F) (sym x) ∙ i in
          ap (λ z. bit_at z k) (words_taken e t w)
          ∙ next_own a b (components n a b F e) (side_words n a b F base e) e (own_word base (count_below e F)) k (sides n a b F e f)
          (own_same base (count_below e F) k q c) (word_fresh e k (omega arith)) w
          ∙ ap (λ z. side_step a b (components n a b F e) e z (sides n a b F e f) w) (sym x)
          ∙ sym (sides_taken e f t w)

  -- ---- words in a buffer

  pub words_none : (N : ℕ) → tabulate N (λ w. 0) ≡ tabulate N (side_words n a b F base 0)
  unfolding side_words
  words_none N = refl

  -- One more edge, as a call leaves the buffer.
  pub words_more : (N e : ℕ) {labels words after : List ℕ} → a e < N → b e < N → labels ≡ tabulate N (components n a b F e)
      → words ≡ tabulate N (side_words n a b F base e)
      → after ≡ cond (F e) (edge_taken (a e) (b e) (own_word base (count_below e F)) labels words) words
      → after ≡ tabulate N (side_words n a b F base (e + 1))
  unfolding edge_taken turned_all
  words_more N e {labels} {words} {after} ab bb h k r = r ∙ rw (add-one e) (by (either (F e)))
    where
      label : ℕ → ℕ
      label = components n a b F e

      word : ℕ → ℕ
      word = side_words n a b F base e

      own : ℕ
      own = own_word base (count_below e F)

      label_at : (v : ℕ) → v < N → slice_index labels v ≡ label v
      label_at v c = ap (λ t. slice_index t v) h ∙ get_d_tabulate N label v 0 c

      word_at : (v : ℕ) → v < N → slice_index words v ≡ word v
      word_at v c = ap (λ t. slice_index t v) k ∙ get_d_tabulate N word v 0 c

      long : length words ≡ N
      long = ap length k ∙ length_tabulate N word

      by : (F e ≡ true) ⊎ (F e ≡ false)
          → cond (F e) (turned_all (slice_index labels (a e)) (slice_index labels (b e)) (bit_xor (slice_index words (a e)) (slice_index words (b e))) own labels words) words
          ≡ tabulate N (side_words n a b F base (suc e))
      by (inr t) = rw t (k ∙ tabulate_cong N word (side_words n a b F base (suc e)) (λ w c. sym (words_passed e t w)))
      by (inl t) =
          rw
          (t, label_at (a e) ab, label_at (b e) bb, word_at (a e) ab, word_at (b e) bb, long)
          (remade_table
          (λ w. turned (label (a e)) (label (b e)) (bit_xor (word (a e)) (word (b e))) own (slice_index labels w))
          N
          words
          (side_words n a b F base (suc e))
          long
          (λ w c. rw (label_at w c, word_at w c) (sym (words_taken e t w))))

-- ---- what calls leave

pub count_start : (F : ℕ → Bool) → 0 ≡ count_below 0 F
unfolding count_below sum_below
count_start F = refl

pub next_index : (e : ℕ) (F : ℕ → Bool) {i next : ℕ} → i ≡ count_below e F → next ≡ i + counted (F e) 1 → next ≡ count_below (e + 1) F
next_index e F h k = k ∙ rw (h, add-one e) (sym (count_suc e F))

-- Of numbers read from the buffers.
pub edge_taken_by : (a b own : ℕ) (labels words : List ℕ) {after : List ℕ} {x y p q : ℕ} → x ≡ slice_index labels a → y ≡ slice_index labels b → p ≡ slice_index words a → q ≡ slice_index words b
    → after ≡ turned_all x y (bit_xor p q) own labels words
    → after ≡ edge_taken a b own labels words
unfolding edge_taken
edge_taken_by a b own labels words hx hy hp hq r = r ∙ rw (hx, hy, hp, hq)

pub ends_joined_by : (a b : ℕ) (labels : List ℕ) {after : List ℕ} {x y : ℕ} → x ≡ slice_index labels a → y ≡ slice_index labels b → after ≡ relabelled x y x labels
    → after ≡ ends_joined a b labels
unfolding ends_joined
ends_joined_by a b labels hx hy r = r ∙ rw (hx, hy)
