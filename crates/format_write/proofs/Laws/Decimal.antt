-- Laws of decimal digits, for numbers of any size: the digits are the quotient's and the last, and their number is bounded.
use Rattle.std.specs.Prelude.{ℕ, zero, suc, ◌+◌, ◌*◌, ◌-◌, ◌/◌, ◌%◌, ◌^◌, ◌≤◌, ◌<◌, ◌≡◌, refl, List, [], ◌∷◌, ◌++◌, length, get_or}
use Rattle.std.proofs.Common.{arith, pow-suc, mod-eq_of_lt, lt-ltb, le-ltb, ap, sym, ◌∙◌, ⊎_elim, length-append}
use Rattle.base_finite.specs.Laws.Below.{lt_or_ge}
use Rattle.format_write.specs.Decimal.{digit, digits_within, decimal, spelled_after, spelled}

digits_small : (fuel x : ℕ) → x < 10 → digits_within fuel x ≡ digit x ∷ []
unfolding digits_within
digits_small zero x h = refl
digits_small (suc fuel) x h = rw (lt-ltb x 10 h)

digits_more : (fuel x : ℕ) → 10 ≤ x → digits_within (suc fuel) x ≡ digits_within fuel (x / 10) ++ (digit (x % 10) ∷ [])
unfolding digits_within
digits_more fuel x h = rw (le-ltb x 10 h)

-- Fuel beyond the number changes nothing.
digits_fuel : (m n x : ℕ) → x ≤ m → x ≤ n → digits_within m x ≡ digits_within n x
digits_fuel zero n x h k = digits_small zero x (omega arith) ∙ sym (digits_small n x (omega arith))
digits_fuel (suc m) zero x h k = digits_small (suc m) x (omega arith) ∙ sym (digits_small zero x (omega arith))
digits_fuel (suc m) (suc n) x h k =
    let rest : 10 ≤ x → digits_within m (x / 10) ≡ digits_within n (x / 10) =
    λ big. digits_fuel m n (x / 10) (omega arith) (omega arith) in
    ⊎_elim
    (λ small. digits_small (suc m) x small ∙ sym (digits_small (suc n) x small))
    (λ big.
    digits_more m x big ∙ ap (λ l. l ++ (digit (x % 10) ∷ [])) (rest big) ∙ sym (digits_more n x big))
    (lt_or_ge x 10)

pub decimal_small : (x : ℕ) → x < 10 → decimal x ≡ digit x ∷ []
unfolding decimal
decimal_small x h = digits_small x x h

pub decimal_more : (x : ℕ) → 10 ≤ x → decimal x ≡ decimal (x / 10) ++ (digit (x % 10) ∷ [])
unfolding decimal
decimal_more x h =
    digits_fuel x (suc x) x (omega arith) (omega arith)
    ∙ digits_more x x h
    ∙ ap (λ l. l ++ (digit (x % 10) ∷ [])) (digits_fuel x (x / 10) (x / 10) (omega arith) (omega arith))

-- The same with the last digit under another name.
pub decimal_one : (x : ℕ) {last : ℕ} → x < 10 → last ≡ digit (x % 10) → (last ∷ []) ≡ decimal x
decimal_one x h e = ap (λ d. d ∷ []) (e ∙ ap digit (mod-eq_of_lt h)) ∙ sym (decimal_small x h)

pub decimal_next : (x : ℕ) {last : ℕ} → 10 ≤ x → last ≡ digit (x % 10) → decimal (x / 10) ++ (last ∷ []) ≡ decimal x
decimal_next x h e = ap (λ d. decimal (x / 10) ++ (d ∷ [])) e ∙ sym (decimal_more x h)

-- A number below 10 to the n has at most n digits (n at least 1).
pub length_decimal : (n x : ℕ) → x < 10 ^ suc n → length (decimal x) ≤ suc n
length_decimal zero x h = rw (decimal_small x h) (omega arith)
length_decimal (suc n) x h =
    ⊎_elim
    (λ small. rw (decimal_small x small) (omega arith))
    (λ big.
    let p : 10 ^ suc (suc n) ≡ 10 ^ suc n * 10 = pow-suc 10 (suc n) in
    let ih : length (decimal (x / 10)) ≤ suc n = length_decimal n (x / 10) (omega arith) in
    let more : length (decimal (x / 10) ++ (digit (x % 10) ∷ [])) ≡ length (decimal (x / 10)) + 1 =
    length-append (decimal (x / 10)) (digit (x % 10) ∷ []) in
    let most : length (decimal (x / 10) ++ (digit (x % 10) ∷ [])) ≤ suc (suc n) = omega arith in
    rw (decimal_more x big) most)
    (lt_or_ge x 10)

-- ---- reading back

pub spelled_last : (ds : List ℕ) (x d : ℕ) → spelled_after x (ds ++ (d ∷ [])) ≡ spelled_after x ds * 10 + (d - digit 0)
unfolding spelled_after
spelled_last [] x d = refl
spelled_last (e ∷ ds) x d = spelled_last ds (x * 10 + (e - digit 0)) d

digits_spell : (fuel x : ℕ) → x ≤ fuel → spelled_after 0 (digits_within fuel x) ≡ x
unfolding spelled_after
digits_spell zero x h = ap (spelled_after 0) (digits_small zero x (omega arith)) ∙ omega arith
digits_spell (suc fuel) x h =
    ⊎_elim
    (λ small. ap (spelled_after 0) (digits_small (suc fuel) x small) ∙ omega arith)
    (λ big.
    let ih : spelled_after 0 (digits_within fuel (x / 10)) ≡ x / 10 = digits_spell fuel (x / 10) (omega arith) in
    let last = spelled_last (digits_within fuel (x / 10)) 0 (digit (x % 10)) in
    ap (spelled_after 0) (digits_more fuel x big) ∙ omega arith)
    (lt_or_ge x 10)

-- The digits of a number spell it.
pub decimal_spells : (x : ℕ) → spelled (decimal x) ≡ x
unfolding decimal spelled
decimal_spells x = digits_spell x x (omega arith)

first_of_append : (xs ys : List ℕ) → 0 < get_or xs 0 0 → get_or (xs ++ ys) 0 0 ≡ get_or xs 0 0
first_of_append [] ys h = absurd (omega arith)
first_of_append (x ∷ xs) ys h = refl

digits_lead : (fuel x : ℕ) → x ≤ fuel → 0 < x → digit 0 < get_or (digits_within fuel x) 0 0
digits_lead zero x h pos = absurd (omega arith)
digits_lead (suc fuel) x h pos =
    ⊎_elim
    (λ small. rw (digits_small (suc fuel) x small) (omega arith))
    (λ big.
    let ih : digit 0 < get_or (digits_within fuel (x / 10)) 0 0 = digits_lead fuel (x / 10) (omega arith) (omega arith) in
    let first = first_of_append (digits_within fuel (x / 10)) (digit (x % 10) ∷ []) (omega arith) in
    let more : digit 0 < get_or (digits_within fuel (x / 10) ++ (digit (x % 10) ∷ [])) 0 0 = omega arith in
    rw (digits_more fuel x big) more)
    (lt_or_ge x 10)

-- No leading zero, unless the number is 0.
pub decimal_leads : (x : ℕ) → 0 < x → digit 0 < get_or (decimal x) 0 0
unfolding decimal
decimal_leads x pos = digits_lead x x (omega arith) pos
