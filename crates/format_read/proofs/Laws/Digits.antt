-- A number's digits are digits, and so it is below the power of ten of its digit limit.
use Rattle.std.specs.Prelude.{ℕ, zero, suc, ◌+◌, ◌*◌, ◌-◌, ◌^◌, ◌≤◌, ◌<◌, ◌≡◌, refl, Bool, true, false, cond, List, [], ◌∷◌, length, get_or, take, drop, eqb}
use Rattle.std.proofs.Common.{arith, add-one, pow-suc, mul-le-mul_right, subst, drop-cons, eqb-true}
use Rattle.std.proofs.Math.Nat.{pow-le-pow_right}
use Rattle.format_read.specs.Step.{found, refused, ◌then◌}
use Rattle.format_write.specs.Decimal.{spelled_after}
use Rattle.format_read.specs.Number.{class_of, is_digit, digits_end, numeral_end, numeral_at, number_at, number_to}
use Rattle.format_read.specs.Bytes.{fixed_at}
use Rattle.format_read.proofs.Laws.Byte.{digit_facts, digit_inside}
use Rattle.format_read.proofs.Laws.Bytes.{read_inside}
use Rattle.format_read.proofs.Laws.Number.{digits_range, numeral_width}
use Rattle.format_read.proofs.Laws.Step.{then_value}

pub data Digits : List ℕ → Type 0 where
  none : Digits []
  one : {d : ℕ} {ds : List ℕ} → 48 ≤ d → d ≤ 57 → Digits ds → Digits (d ∷ ds)

-- The bytes of t from offset at up to end.
unfoldable pub bytes_between : List ℕ → (at end : ℕ) → List ℕ
bytes_between t at end = take (end - at) (drop at t)

pub between_none : (t : List ℕ) (at : ℕ) → bytes_between t at at ≡ []
unfolding bytes_between
between_none t at = let z : at - at ≡ 0 = omega arith in rw z

pub between_more : (t : List ℕ) (at end : ℕ) → at < length t → at < end → bytes_between t at end ≡ get_or t at 0 ∷ bytes_between t (at + 1) end
unfolding bytes_between
between_more t at end h k = let z : end - at ≡ suc (end - (at + 1)) = omega arith in rw (z, drop-cons t at 0 h, add-one)

pub run_digits : (t : List ℕ) (limit at : ℕ) → Digits (bytes_between t at (digits_end limit t at))
unfolding digits_end is_digit
run_digits t zero at = rw (between_none t at) none
run_digits t (suc limit) at = by_digit (is_digit (class_of (get_or t at 0))) refl (run_digits t limit (at + 1))
  where
    by_digit : (b : Bool) → is_digit (class_of (get_or t at 0)) ≡ b → Digits (bytes_between t (at + 1) (digits_end limit t (at + 1))) → Digits (bytes_between t at (cond b (digits_end limit t (at + 1)) at))
    by_digit true e r =
        let f = digit_facts (get_or t at 0) e in
        let h = digit_inside t at e in
        let from = (digits_range t limit (at + 1)).from in
        let m : at < digits_end limit t (at + 1) = omega arith in
        rw (between_more t at (digits_end limit t (at + 1)) h m) (one f.0 f.1 r)
    by_digit false e r = rw (between_none t at) none

pub numeral_digits : (t : List ℕ) (limit at : ℕ) → Digits (numeral_at limit t at)
unfolding numeral_at numeral_end bytes_between
numeral_digits t limit at = by_zero (eqb (get_or t at 0) 48) refl
  where
    by_zero : (z : Bool) → eqb (get_or t at 0) 48 ≡ z → Digits (bytes_between t at (cond z (at + 1) (digits_end limit t at)))
    by_zero true e =
        let b : get_or t at 0 ≡ 48 = eqb-true (get_or t at 0) 48 e in
        let h : at < length t = read_inside t at (omega arith) in
        let m : at < at + 1 = omega arith in
        rw (between_more t at (at + 1) h m, between_none t (at + 1)) (one {d = get_or t at 0} (omega arith) (omega arith) none)
    by_zero false e = run_digits t limit at

pub decimal_below : (n : ℕ) {ds : List ℕ} → Digits ds → spelled_after n ds < (n + 1) * 10 ^ length ds
unfolding spelled_after
decimal_below n none = omega arith
decimal_below n (one {d = d} {ds = ds} low high r) =
    let m : ℕ = n * 10 + (d - 48) in
    let ih : spelled_after m ds < (m + 1) * 10 ^ length ds = decimal_below m r in
    let k : m + 1 ≤ (n + 1) * 10 = omega arith in
    let p : (m + 1) * 10 ^ length ds ≤ (n + 1) * 10 * 10 ^ length ds = mul-le-mul_right (10 ^ length ds) k in
    rw (pow-suc) (omega arith)

pub number_below : (t : List ℕ) (limit at v next : ℕ) → 1 ≤ limit → number_at limit t at ≡ found v next → v < 10 ^ limit
unfolding number_at
number_below t limit at v next h e = by_width (eqb (length (numeral_at limit t at)) 0) e
  where
    by_width : (z : Bool) → cond z (refused 16 at) (found (spelled_after 0 (numeral_at limit t at)) (at + length (numeral_at limit t at))) ≡ found v next → v < 10 ^ limit
    by_width true q = let z : ◌≡◌ {A = ℕ} 0 1 = cc in absurd (omega arith)
    by_width false q =
        let b = decimal_below 0 (numeral_digits t limit at) in
        let w = (numeral_width t limit at).most in
        let p : 10 ^ length (numeral_at limit t at) ≤ 10 ^ limit = pow-le-pow_right {n = 10} (omega arith) {i = length (numeral_at limit t at)} {j = limit} (omega arith) in
        let s : spelled_after 0 (numeral_at limit t at) ≡ v = cc in
        omega arith

pub number_to_below : (t : List ℕ) (limit stop at v next : ℕ) → 1 ≤ limit → number_to limit stop t at ≡ found v next → v < 10 ^ limit
unfolding number_to
number_to_below t limit stop at v next h e =
    let f = then_value (number_at limit t at) (λ n p. fixed_at (stop ∷ []) t p then λ z q. found n q) e in
    let g = then_value (fixed_at (stop ∷ []) t f.1) (λ z q. found f.0 q) f.3 in
    let w : f.0 ≡ v = cc g.3 in
    subst (λ (x : ℕ). x < 10 ^ limit) w (number_below t limit at f.0 f.1 h f.2)
