-- Decimal digits and the number that they write undo each other.
use Rattle.std.specs.Prelude.{ℕ, zero, suc, ◌+◌, ◌*◌, ◌-◌, ◌/◌, ◌%◌, ◌≤◌, ◌<◌, ◌≡◌, refl, List, [], ◌∷◌, ◌++◌, length, get_or}
use Rattle.std.proofs.Common.{arith, ap, sym, ◌∙◌, ⊎_elim, append_assoc, append-nil, length-append}
use Rattle.base_finite.specs.Laws.Below.{lt_or_ge}
use Rattle.format_write.specs.Decimal.{decimal, spelled_after}
use Rattle.format_write.proofs.Laws.Decimal.{decimal_small, decimal_more, spelled_last}
use Rattle.format_read.proofs.Laws.Digits.{Digits, none, one}

-- Digits after a number that is not 0 are the digits of the whole.
pub decimal_append : (n : ℕ) {ds : List ℕ} → 0 < n → Digits ds → decimal (spelled_after n ds) ≡ decimal n ++ ds
unfolding spelled_after
decimal_append n h none = sym (append-nil (decimal n))
decimal_append n h (one {d = d} {ds = ds} low high r) =
    let m : ℕ = n * 10 + (d - 48) in
    let ih : decimal (spelled_after m ds) ≡ decimal m ++ ds = decimal_append m (omega arith) r in
    let q : m / 10 ≡ n = omega arith in
    let l : 48 + m % 10 ≡ d = omega arith in
    let e : decimal m ≡ decimal n ++ (d ∷ []) = decimal_more m (omega arith) ∙ ap (λ (k : ℕ). decimal k ++ ((48 + m % 10) ∷ [])) q ∙ ap (λ (k : ℕ). decimal n ++ (k ∷ [])) l in
    ih ∙ ap (λ (w : List ℕ). w ++ ds) e ∙ append_assoc (decimal n) (d ∷ []) ds

-- Digits with no leading zero are those of the number that they write.
pub decimal_of_digits : {d : ℕ} {ds : List ℕ} → 48 < d → Digits (d ∷ ds) → decimal (spelled_after 0 (d ∷ ds)) ≡ d ∷ ds
unfolding spelled_after
decimal_of_digits {d} {ds} h (one low high r) =
    let m : ℕ = 0 * 10 + (d - 48) in
    let small : decimal m ≡ (48 + m) ∷ [] = decimal_small m (omega arith) in
    let l : 48 + m ≡ d = omega arith in
    decimal_append m (omega arith) r ∙ ap (λ (w : List ℕ). w ++ ds) (small ∙ ap (λ (k : ℕ). k ∷ []) l)

digits_last : {w : List ℕ} {d : ℕ} → Digits w → 48 ≤ d → d ≤ 57 → Digits (w ++ (d ∷ []))
digits_last none low high = one low high none
digits_last (one l h r) low high = one l h (digits_last r low high)

head_last : (w : List ℕ) (d : ℕ) → 0 < get_or w 0 0 → get_or (w ++ (d ∷ [])) 0 0 ≡ get_or w 0 0
head_last [] d h = absurd (omega arith)
head_last (c ∷ w) d h = refl

-- What the digits of a number are.
pub record Numeral (x : ℕ) (w : List ℕ) : Type 0 where
  pub value : spelled_after 0 w ≡ x
  pub digits : Digits w
  pub head : 0 < x → 48 < get_or w 0 0
  pub some : 0 < length w

numeral_small : (x : ℕ) → x < 10 → Numeral x (decimal x)
unfolding spelled_after
numeral_small x small =
    rw (decimal_small x small)
    (record { value = omega arith; digits = one {d = 48 + x} (omega arith) (omega arith) none; head = λ p. omega arith; some = omega arith })

numeral_more : (x : ℕ) → 10 ≤ x → Numeral (x / 10) (decimal (x / 10)) → Numeral x (decimal x)
numeral_more x big n =
    let h : 48 < get_or (decimal (x / 10)) 0 0 = n.head (omega arith) in
    let v = spelled_last (decimal (x / 10)) 0 (48 + x % 10) in
    let b = n.value in
    let e : spelled_after 0 (decimal (x / 10) ++ ((48 + x % 10) ∷ [])) ≡ x = omega arith in
    let f = head_last (decimal (x / 10)) (48 + x % 10) (omega arith) in
    let l = length-append (decimal (x / 10)) ((48 + x % 10) ∷ []) in
    rw (decimal_more x big)
    (record { value = e; digits = digits_last n.digits (omega arith) (omega arith); head = λ _. omega arith; some = omega arith })

numeral_within : (fuel x : ℕ) → x ≤ fuel → Numeral x (decimal x)
numeral_within zero x h = numeral_small x (omega arith)
numeral_within (suc fuel) x h =
    let rest : 10 ≤ x → Numeral (x / 10) (decimal (x / 10)) = λ big. numeral_within fuel (x / 10) (omega arith) in
    ⊎_elim (λ small. numeral_small x small) (λ big. numeral_more x big (rest big)) (lt_or_ge x 10)

pub decimal_numeral : (x : ℕ) → Numeral x (decimal x)
decimal_numeral x = numeral_within x x (omega arith)
