-- Laws of members that are passed over: a byte of 0 has none, and numbers that are none add nothing to the rising list.
use Rattle.std.specs.Prelude.{ℕ, zero, suc, ◌+◌, ◌/◌, ◌%◌, ◌<◌, ◌≡◌, Bool, true, false, cond, List, [], ◌∷◌, ◌++◌, get_or, drop, eqb}
use Rattle.std.proofs.Common.{add-zero, add-suc, arith, eqb-true, eq-eqb, ne_eqb, ap, ◌∙◌, append-nil, get_or-drop}
use Rattle.base_finite.specs.Below.{those_below}
use Rattle.base_finite.specs.Laws.Test.{and_left, and_right}
use Rattle.base_limits.specs.Limits.{value_bytes}
use Rattle.format_record.specs.Bits.{bit_at, member_at}
use Rattle.format_record.specs.Record.{member_in}
use Rattle.format_record.proofs.Laws.Bits.{bit_of_zero}
use Rattle.format_write.specs.Wrote.{begins_zero}

-- v begins a byte of members that has none.
pub record NoneInByte (part : List ℕ) (v : ℕ) : Type 0 where
  pub begins : v % 8 ≡ 0
  pub none : (i : ℕ) → i < 8 → member_in part (v + i) ≡ false

none_in_byte : (part : List ℕ) (v : ℕ) → v % 8 ≡ 0 → get_or part (value_bytes + v / 8) 0 ≡ 0 → NoneInByte part v
unfolding member_in member_at
none_in_byte part v e zeros = record {
  begins = e;
  none = λ i l.
      let q : (v + i) / 8 ≡ v / 8 = omega arith in
      ap (λ j. bit_at (get_or (drop value_bytes part) j 0) ((v + i) % 8)) q
      ∙ ap (λ b. bit_at b ((v + i) % 8)) (get_or-drop value_bytes part (v / 8) 0 ∙ zeros)
      ∙ bit_of_zero ((v + i) % 8);
}

pub begins_zero_none : (part : List ℕ) (v : ℕ) → begins_zero part v ≡ true → NoneInByte part v
unfolding begins_zero
begins_zero_none part v h =
    let begins : eqb (v % 8) 0 ≡ true = and_left (eqb (v % 8) 0) _ h in
    let zeros : eqb (get_or part (value_bytes + v / 8) 0) 0 ≡ true = and_right (eqb (v % 8) 0) _ h in
    none_in_byte part v (eqb-true (v % 8) 0 begins) (eqb-true (get_or part (value_bytes + v / 8) 0) 0 zeros)

-- The test at a number inside a byte, and at one that begins a byte.
pub inside_no_zero : (part : List ℕ) (v : ℕ) → 0 < v % 8 → false ≡ begins_zero part v
unfolding begins_zero
inside_no_zero part v h = rw (ne_eqb (v % 8) 0 (λ e. omega arith))

pub begins_by_byte : (part : List ℕ) (v : ℕ) {byte : ℕ} → v % 8 ≡ 0 → byte ≡ get_or part (value_bytes + v / 8) 0 → eqb byte 0 ≡ begins_zero part v
unfolding begins_zero
begins_by_byte part v e h = rw (eq-eqb (v % 8) 0 e, h)

pub those_past : (n v : ℕ) (t : ℕ → Bool) → ((i : ℕ) → i < n → t (v + i) ≡ false) → those_below (v + n) t ≡ those_below v t
unfolding those_below
those_past zero v t h = ap (λ m. those_below m t) (add-zero v)
those_past (suc n) v t h =
    ap (λ m. those_below m t) (add-suc v n)
    ∙ ap (λ b. those_below (v + n) t ++ cond b ((v + n) ∷ []) []) (h n (omega arith))
    ∙ append-nil (those_below (v + n) t)
    ∙ those_past n v t (λ i l. h i (omega arith))
