-- A word says a track number exactly if it is the number's decimal digits, of which there are no more than a count has.
use Rattle.std.specs.Prelude.{ℕ, ◌+◌, ◌^◌, ◌≤◌, ◌<◌, ◌≡◌, false, List, length, get_or}
use Rattle.std.proofs.Common.{arith, ap, sym, ◌∙◌, ⊎_elim, take_all}
use Rattle.std.proofs.Math.ListN.{get_or-eq_default}
use Rattle.base_finite.specs.Laws.Below.{lt_or_ge}
use Rattle.base_limits.specs.Limits.{count_digits}
use Rattle.format_write.specs.Decimal.{decimal}
use Rattle.format_read.specs.Step.{found, refused, ◌then◌}
use Rattle.format_read.proofs.Laws.Step.{then_found, then_refused}
use Rattle.format_read.proofs.Laws.Bytes.{end_here, end_later}
use Rattle.format_read.proofs.Laws.Stands.{stands_whole}
use Rattle.format_read.specs.Number.{class_of, is_digit, number_at}
use Rattle.format_read.proofs.Laws.NumberWord.{numeral_end_is, number_is, NumberOrNone, absent, present, no_digit_number, number_or_none}
use Rattle.text_why.specs.Output.{track_at}

never : {n p a b : ℕ} → refused a b ≡ found n p → ⊥
never h = let z : ◌≡◌ {A = ℕ} 0 1 = cc in omega arith

-- What is a number up to an offset is read if the word ends there.
ended : (w : List ℕ) (v p : ℕ) → number_at count_digits w 0 ≡ found v p → length w ≤ p → track_at w ≡ found v p
unfolding track_at
ended w v p e h = then_found _ e ∙ then_found (λ z q. found v q) (end_here w p h)

unended : (w : List ℕ) (v p : ℕ) → number_at count_digits w 0 ≡ found v p → p < length w → track_at w ≡ refused 16 p
unfolding track_at
unended w v p e h = then_found _ e ∙ then_refused (λ z q. found v q) (end_later w p h)

pub track_said : (w : List ℕ) (n p : ℕ) → track_at w ≡ found n p → (w ≡ decimal n) × (n < 10 ^ count_digits)
unfolding track_at
track_said w n p h = by (number_or_none w count_digits 0 (omega arith))
  where
    by : NumberOrNone w count_digits 0 → (w ≡ decimal n) × (n < 10 ^ count_digits)
    by (absent e) = absurd (never (sym (then_refused _ (no_digit_number w count_digits 0 e)) ∙ h))
    by (present v below stands end) =
        let q : ℕ = 0 + length (decimal v) in
        let e : number_at count_digits w 0 ≡ found v q = number_is w count_digits 0 v end stands in
        let fits = stands.fits in
        ⊎_elim
        (λ (more : q < length w). absurd (never (sym (unended w v q e more) ∙ h)))
        (λ (all : length w ≤ q).
        let same : v ≡ n = cc (sym (ended w v q e all) ∙ h) in
        let whole : w ≡ decimal v = sym (take_all q w all) ∙ stands.is in
        (whole ∙ ap decimal same, subst_below same below))
        (lt_or_ge q (length w))
      where
        subst_below : {v n : ℕ} → v ≡ n → v < 10 ^ count_digits → n < 10 ^ count_digits
        subst_below e b = rw e at b

pub said_track : (n : ℕ) → n < 10 ^ count_digits → track_at (decimal n) ≡ found n (length (decimal n))
unfolding class_of is_digit
said_track n h =
    let w = decimal n in
    let past : get_or w (0 + length w) 0 ≡ 0 = get_or-eq_default w 0 (omega arith) in
    let stop : is_digit (class_of (get_or w (0 + length w) 0)) ≡ false = ap (λ b. is_digit (class_of b)) past in
    let end = numeral_end_is w count_digits 0 n (omega arith) h (stands_whole w) stop in
    let none : 0 + length w ≡ length w = omega arith in
    ended w n (0 + length w) (number_is w count_digits 0 n end (stands_whole w)) (omega arith) ∙ ap (found n) none
