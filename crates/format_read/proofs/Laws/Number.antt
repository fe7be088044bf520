-- Laws of the digits of a number: where they end, and how large the number is.
use Rattle.std.specs.Prelude.{ℕ, zero, suc, ◌+◌, ◌*◌, ◌-◌, ◌^◌, max, ◌≤◌, ◌<◌, ◌≡◌, refl, Bool, true, false, cond, List, [], length, get_or, take, drop, eqb, leb}
use Rattle.std.proofs.Common.{arith, le_of_lt, pow-suc, add-one, ap, ◌∙◌, drop_of_length-le, length-take, length-drop, drop-cons, eqb-true, leb-true, leb-false}
use Rattle.std.proofs.Math.Nat.{pow-le-pow_right}
use Rattle.std.proofs.Math.Seq.{take-nil}
use Rattle.base_limits.specs.Limits.{max_digits}
use Rattle.format_write.specs.Decimal.{spelled_after}
use Rattle.format_read.specs.Number.{class_of, is_digit, digits_end, numeral_end, numeral_at}
use Rattle.format_read.proofs.Laws.Byte.{digit_inside}
use Rattle.format_read.proofs.Laws.Bytes.{read_inside}
use Rattle.format_read.proofs.Laws.Lines.{one_less_law}

-- One turn of a loop over the digits.
pub digits_more : (t : List ℕ) (limit i at : ℕ) → i < limit → is_digit (class_of (get_or t at 0)) ≡ true → digits_end (limit - i) t at ≡ digits_end (limit - (i + 1)) t (at + 1)
unfolding digits_end is_digit
digits_more t limit i at h e = rw (one_less_law h, e)

pub digits_none : (t : List ℕ) (k at : ℕ) → is_digit (class_of (get_or t at 0)) ≡ false → digits_end k t at ≡ at
unfolding digits_end is_digit
digits_none t zero at e = refl
digits_none t (suc k) at e = rw e

pub digits_stop : (t : List ℕ) (limit i at : ℕ) → is_digit (class_of (get_or t at 0)) ≡ false → digits_end (limit - i) t at ≡ at
digits_stop t limit i at e = digits_none t (limit - i) at e

pub digits_end_zero : {k : ℕ} (t : List ℕ) (at : ℕ) → k ≡ 0 → at ≡ digits_end k t at
unfolding digits_end is_digit
digits_end_zero t at e = rw e

-- Where digits can end.
pub record Range (t : List ℕ) (limit at end : ℕ) : Type 0 where
  pub from : at ≤ end
  pub most : end ≤ at + limit
  pub inside : at ≤ length t → end ≤ length t

pub digits_range : (t : List ℕ) (limit at : ℕ) → Range t limit at (digits_end limit t at)
unfolding digits_end is_digit
digits_range t zero at = record { from = omega arith; most = omega arith; inside = λ h. h }
digits_range t (suc limit) at = by_digit (is_digit (class_of (get_or t at 0))) refl (digits_range t limit (at + 1))
  where
    stay : Range t (suc limit) at at
    stay = record { from = omega arith; most = omega arith; inside = λ h. h }

    by_digit : (b : Bool) → is_digit (class_of (get_or t at 0)) ≡ b → Range t limit (at + 1) (digits_end limit t (at + 1)) → Range t (suc limit) at (cond b (digits_end limit t (at + 1)) at)
    by_digit true e r =
        let h = digit_inside t at e in
        let p = r.from in
        let q = r.most in
        record { from = omega arith; most = omega arith; inside = λ _. r.inside (omega arith) }
    by_digit false e r = stay

pub numeral_range : (t : List ℕ) (limit at : ℕ) → Range t (max 1 limit) at (numeral_end limit t at)
unfolding numeral_end
numeral_range t limit at = by_zero (eqb (get_or t at 0) 48) refl
  where
    by_zero : (z : Bool) → eqb (get_or t at 0) 48 ≡ z → Range t (max 1 limit) at (cond z (at + 1) (digits_end limit t at))
    by_zero true e =
        let b : get_or t at 0 ≡ 48 = eqb-true (get_or t at 0) 48 e in
        let i : at < length t = read_inside t at (omega arith) in
        record { from = omega arith; most = omega arith; inside = λ _. omega arith }
    by_zero false e =
        let r = digits_range t limit at in
        let f = r.from in
        let m = r.most in
        record { from = f; most = omega arith; inside = r.inside }

pub numeral_past : (t : List ℕ) (limit at : ℕ) → length t < numeral_end limit t at → numeral_at limit t at ≡ []
unfolding numeral_at
numeral_past t limit at h = by_start (leb at (length t)) refl
  where
    by_start : (b : Bool) → leb at (length t) ≡ b → take (numeral_end limit t at - at) (drop at t) ≡ []
    by_start true e = let i = (numeral_range t limit at).inside (leb-true at (length t) e) in absurd (omega arith)
    by_start false e =
        ap (take (numeral_end limit t at - at)) (drop_of_length-le t (le_of_lt (leb-false at (length t) e))) ∙ take-nil (numeral_end limit t at - at)

-- What n digits can come to, whatever the bytes are.
pub value_step : (n d i : ℕ) → n + 23 ≤ 23 * 10 ^ i → d < 256 → n * 10 + (d - 48) + 23 ≤ 23 * 10 ^ (i + 1)
value_step n d i h k = rw (add-one, pow-suc) (omega arith)

-- Within the digit limit that comes to far less than 64 bits hold.
pub spelled_fits : (n i : ℕ) → n + 23 ≤ 23 * 10 ^ i → i < max_digits → n ≤ 23 * 10 ^ max_digits
spelled_fits n i h k =
    let p : 10 ^ i ≤ 10 ^ max_digits = pow-le-pow_right {n = 10} (omega arith) {i = i} {j = max_digits} (omega arith) in omega arith

pub spelled_more : (n i : ℕ) (s : List ℕ) → i < length s → spelled_after n (drop i s) ≡ spelled_after (n * 10 + (get_or s i 0 - 48)) (drop (i + 1) s)
unfolding spelled_after
spelled_more n i s h = rw (add-one, drop-cons s i 0 h)

pub record Width (t : List ℕ) (limit at width : ℕ) : Type 0 where
  pub most : width ≤ max 1 limit
  pub inside : 0 < width → at + width ≤ length t

pub numeral_width : (t : List ℕ) (limit at : ℕ) → Width t limit at (length (numeral_at limit t at))
unfolding numeral_at
numeral_width t limit at =
    let r = (numeral_range t limit at).most in
    let e = length-take (numeral_end limit t at - at) (drop at t) in
    let d = length-drop at t in
    record { most = omega arith; inside = λ h. omega arith }
