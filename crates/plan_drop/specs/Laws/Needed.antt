-- Laws of judging: one edge, a batch, and all groups at once.
use Rattle.std.specs.Prelude.{◌≡◌, ℕ, zero, suc, ◌+◌, ◌-◌, ◌<◌, ◌≤◌, Bool, true, false, cond, ◌&&◌, List, [], ◌∷◌, nat_le, nat_lt, slice_index, slice_set, refl}
use Rattle.std.proofs.Common.{arith, ap, sym, ◌∙◌, lt-ltb, le-leb, le-ltb}
use Rattle.std.specs.Bool.{xor}
use Rattle.std.specs.Int.Bits.{bit_xor}
use Rattle.std.proofs.lemmas.Bool.{lt-leb}
use Rattle.base_finite.specs.Below.{count_below, any_below}
use Rattle.base_finite.specs.Laws.Below.{counted_true, counted_false}
use Rattle.base_finite.specs.Laws.Test.{and_both}
use Rattle.format_record.specs.Bits.{bit_at}
use Rattle.format_record.proofs.Laws.Bits.{bit_of_zero, bit_or_law}
use Rattle.base_buffer.specs.Store.{remade}
use Rattle.base_buffer.proofs.Laws.Store.{remade_more}
use Rattle.plan_drop.specs.Word.{word_bits, in_batch}
use Rattle.plan_drop.specs.Laws.Word.{bit_xor_law}
use Rattle.plan_drop.specs.Parted.{parted_below}
use Rattle.plan_drop.specs.Needed.{side_in, judged, raised, MarkStep}

-- ---- one edge

set_same : (l : List ℕ) (i : ℕ) → slice_set l i (slice_index l i) ≡ l
set_same [] zero = refl
set_same [] (suc i) = refl
set_same (x ∷ l) zero = refl
set_same (x ∷ l) (suc i) = ap (λ t. x ∷ t) (set_same l i)

pub mark_passed : {in_set good : Bool} (e i : ℕ) (marks : List ℕ) → in_set ≡ false → MarkStep in_set good e i marks i marks
mark_passed e i marks t = record { index = omega (arith, counted_false t 1); marks_are = rw t (sym (set_same marks e)) }

pub mark_kept : {in_set good : Bool} (e i : ℕ) (marks : List ℕ) → in_set ≡ true → good ≡ true → MarkStep in_set good e i marks (i + 1) (slice_set marks e 2)
mark_kept e i marks t g = record { index = omega (arith, counted_true t 1); marks_are = rw (t, g) }

pub mark_dropped : {in_set good : Bool} (e i : ℕ) (marks : List ℕ) → in_set ≡ true → good ≡ false → MarkStep in_set good e i marks (i + 1) marks
mark_dropped e i marks t g = record { index = omega (arith, counted_true t 1); marks_are = rw (t, g) (sym (set_same marks e)) }

-- One more edge, as a call leaves the marks.
pub marks_more : (F J : ℕ → Bool) (e : ℕ) (l marks : List ℕ) {after : List ℕ} {i : ℕ} → marks ≡ remade (raised F J) e l → i ≡ count_below e F
    → after ≡ slice_set marks e (cond (F e && J i) 2 (slice_index marks e))
    → after ≡ remade (raised F J) (e + 1) l
unfolding raised
marks_more F J e l marks h k r =
    r ∙ remade_more (λ e mark. cond (F e && J (count_below e F)) 2 mark) e l marks _ h (ap (λ j. cond (F e && J j) 2 (slice_index marks e)) k)

-- ---- a batch

pub batch_before : (base i : ℕ) → i < base → in_batch base i ≡ false
unfolding in_batch
batch_before base i h = ap (λ t. t && nat_lt (i - base) word_bits) (lt-leb base i h)

pub batch_after : (base i : ℕ) → base ≤ i → word_bits ≤ i - base → in_batch base i ≡ false
unfolding in_batch
batch_after base i l h = ap (λ t. t && nat_lt (i - base) word_bits) (le-leb base i l) ∙ le-ltb (i - base) word_bits h

pub batch_in : (base i : ℕ) → base ≤ i → i - base < word_bits → in_batch base i ≡ true
unfolding in_batch
batch_in base i l h = and_both (nat_le base i) (nat_lt (i - base) word_bits) (le-leb base i l) (lt-ltb (i - base) word_bits h)

pub judged_before : (bits base i : ℕ) → i < base → judged bits base i ≡ false
unfolding judged
judged_before bits base i h = rw (batch_before base i h)

pub judged_after : (bits base i : ℕ) → base ≤ i → word_bits ≤ i - base → judged bits base i ≡ false
unfolding judged
judged_after bits base i l h = rw (batch_after base i l h)

pub judged_in : (bits base i : ℕ) → base ≤ i → i - base < word_bits → judged bits base i ≡ bit_at bits (i - base)
unfolding judged
judged_in bits base i l h = rw (batch_in base i l h)

-- ---- all groups at once

module _ (words mates : List ℕ) where
  pub parted_bit : (n k : ℕ) → bit_at (parted_below words mates n) k ≡ any_below n (λ v. xor (side_in words k v) (side_in words k (slice_index mates v)))
  unfolding parted_below any_below side_in
  parted_bit zero k = bit_of_zero k
  parted_bit (suc v) k =
      bit_or_law (parted_below words mates v) (bit_xor (slice_index words v) (slice_index words (slice_index mates v))) k
      ∙ rw (parted_bit v k, bit_xor_law (slice_index words v) (slice_index words (slice_index mates v)) k)
