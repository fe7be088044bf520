-- The words that a number reads: its digits, and the byte that ends them.
use Rattle.std.specs.Prelude.{ℕ, zero, suc, ◌+◌, ◌-◌, ◌^◌, ◌≤◌, ◌<◌, Bool, cond, drop, eqb}
use native.Mathlib.Omega.{arith}
use Rattle.std.proofs.Math.Nat.{add-sub_cancel_left, one-le-pow}
use Rattle.std.proofs.Math.Path.{◌≡◌, refl, ap, subst}
use Rattle.std.proofs.Common.{sym, ◌∙◌, length-drop, length-take-le, eq-eqb, ne_eqb, eqb-true}
use Rattle.std.proofs.Math.Bool.{true, false}
use mathlib.Core.List.{List, [], ◌∷◌, ◌++◌, append_assoc}
use Rattle.std.proofs.Math.ListN.{length, get_or, take, length-append}
use Rattle.std.proofs.lemmas.Bool.{eqb-false}
use Rattle.format_write.specs.Key.{newline}
use Rattle.format_write.specs.Decimal.{decimal, spelled_after}
use Rattle.format_write.specs.Text.{line_of}
use Rattle.format_write.proofs.Laws.Decimal.{length_decimal, decimal_small}
use Rattle.format_read.specs.Number.{class_of, is_digit, digits_end, numeral_end, numeral_at, number_at, number_to, number_text, OfDigits, line_bytes}
use Rattle.format_read.proofs.Laws.Byte.{digit_byte, digit_inside}
use Rattle.format_read.proofs.Laws.Number.{digits_none, digits_range, numeral_range}
use Rattle.format_read.proofs.Laws.Digits.{Digits, none, one, numeral_digits, number_below}
use Rattle.format_read.proofs.Laws.Decimal.{decimal_of_digits, decimal_numeral}
use Rattle.format_read.specs.Bytes.{byte_is}
use Rattle.format_read.specs.Language.{Reads, Word, Extends, read}
use Rattle.format_read.proofs.Laws.Bytes.{byte_is_law, byte_inside, stop_found, stop_refused, no_bool, byte_same, read_same}
use Rattle.format_read.proofs.Laws.Stands.{stands_byte, stands_append, stands_first, stands_second, stands_head, stands_same, stands_part, part_stands}
use Rattle.format_read.proofs.Laws.Step.{then_found, then_refused}
use Rattle.format_read.specs.Stands.{Stands}
use Rattle.format_read.specs.Step.{Step, found, refused}

digits_same : (t u : List ℕ) (limit at q : ℕ) → take q t ≡ take q u → digits_end limit t at < q → digits_end limit u at ≡ digits_end limit t at
unfolding digits_end is_digit
digits_same t u zero at q e h = refl
digits_same t u (suc limit) at q e h = by_digit (is_digit (class_of (get_or t at 0))) refl (λ k. digits_same t u limit (at + 1) q e k) h
  where
    by_digit : (b : Bool) → is_digit (class_of (get_or t at 0)) ≡ b → (digits_end limit t (at + 1) < q → digits_end limit u (at + 1) ≡ digits_end limit t (at + 1)) → cond b (digits_end limit t (at + 1)) at < q
        → cond (is_digit (class_of (get_or u at 0))) (digits_end limit u (at + 1)) at ≡ cond b (digits_end limit t (at + 1)) at
    by_digit true c ih h =
        let f = (digits_range t limit (at + 1)).from in
        let s = read_same t u q at e (omega arith) in
        rw (← s, c) (ih h)
    by_digit false c ih h = let s = read_same t u q at e h in rw (← s, c) refl

pub numeral_same : (t u : List ℕ) (limit at q : ℕ) → take q t ≡ take q u → numeral_end limit t at < q → at < q → numeral_end limit u at ≡ numeral_end limit t at
unfolding numeral_end
numeral_same t u limit at q e h i =
    let s : get_or t at 0 ≡ get_or u at 0 = read_same t u q at e i in
    by_zero (eqb (get_or t at 0) 48) refl s h
  where
    by_zero : (z : Bool) → eqb (get_or t at 0) 48 ≡ z → get_or t at 0 ≡ get_or u at 0 → cond z (at + 1) (digits_end limit t at) < q → cond (eqb (get_or u at 0) 48) (at + 1) (digits_end limit u at) ≡ cond z (at + 1) (digits_end limit t at)
    by_zero true c s h = rw (← s, c) refl
    by_zero false c s h = rw (← s, c) (digits_same t u limit at q e h)

-- Digits that stand at an offset and are not followed by another.
run_is : (t : List ℕ) (limit at : ℕ) {w : List ℕ} → Digits w → Stands t at w → length w ≤ limit → is_digit (class_of (get_or t (at + length w) 0)) ≡ false → digits_end limit t at ≡ at + length w
unfolding digits_end is_digit
run_is t limit at none s h e =
    let z : at + 0 ≡ at = omega arith in
    digits_none t limit at (subst (λ (k : ℕ). is_digit (class_of (get_or t k 0)) ≡ false) z e) ∙ sym z
run_is t zero at (one low high r) s h e = absurd (omega arith)
run_is t (suc limit) at (one {d = d} {ds = ds} low high r) s h e =
    let b : get_or t at 0 ≡ d = stands_head s in
    let k : is_digit (class_of (get_or t at 0)) ≡ true = ap (λ (x : ℕ). is_digit (class_of x)) b ∙ digit_byte d low high in
    let z : at + 1 + length ds ≡ at + suc (length ds) = omega arith in
    let ih = run_is t limit (at + 1) r (stands_second (d ∷ []) ds s) (omega arith) (subst (λ (n : ℕ). is_digit (class_of (get_or t n 0)) ≡ false) (sym z) e) in
    rw k (ih ∙ z)

number_of_law : (t : List ℕ) (limit at : ℕ) {w : List ℕ} → numeral_at limit t at ≡ w → 0 < length w → number_at limit t at ≡ found (spelled_after 0 w) (at + length w)
unfolding number_at
number_of_law t limit at {w} e h = let n : length w ≡ 0 → ⊥ = λ z. omega arith in rw (e, ne_eqb (length w) 0 n)

number_none : (t : List ℕ) (limit at : ℕ) → numeral_at limit t at ≡ [] → number_at limit t at ≡ refused 16 at
unfolding number_at
number_none t limit at e = rw e

first_byte : {t : List ℕ} {at : ℕ} (w : List ℕ) → 0 < length w → Stands t at w → get_or t at 0 ≡ get_or w 0 0
first_byte [] h s = absurd (omega arith)
first_byte (b ∷ w) h s = stands_head s

-- A number of at most limit digits has so many.
pub digits_most : (limit v : ℕ) → 1 ≤ limit → v < 10 ^ limit → length (decimal v) ≤ limit
digits_most zero v h k = absurd (omega arith)
digits_most (suc limit) v h k = length_decimal limit v k

-- So has its text, with the byte behind it, and a line of a key and a number.
pub number_most : (stop limit x : ℕ) → 1 ≤ limit → OfDigits limit x → length (number_text stop x) ≤ limit + 1
unfolding number_text
number_most stop limit x positive h =
    let a = length-append (decimal x) (stop ∷ []) in
    let d = digits_most limit x positive h in
    omega arith

pub line_most : (key : List ℕ) (limit x : ℕ) → 1 ≤ limit → OfDigits limit x → length (line_of key x) ≤ line_bytes key limit
unfolding line_of
line_most key limit x positive h =
    let a = length-append (key ++ decimal x) (newline ∷ []) in
    let b = length-append key (decimal x) in
    let d = digits_most limit x positive h in
    omega arith

pub numeral_end_is : (t : List ℕ) (limit at v : ℕ) → 1 ≤ limit → v < 10 ^ limit → Stands t at (decimal v) → is_digit (class_of (get_or t (at + length (decimal v)) 0)) ≡ false → numeral_end limit t at ≡ at + length (decimal v)
unfolding numeral_end
numeral_end_is t limit at zero h k s e =
    let d : decimal 0 ≡ 48 ∷ [] = decimal_small 0 (omega arith) in
    let b : get_or t at 0 ≡ 48 = stands_head (subst (Stands t at) d s) in
    rw (eq-eqb (get_or t at 0) 48 b, d)
numeral_end_is t limit at (suc v) h k s e =
    let n = decimal_numeral (suc v) in
    let b : get_or t at 0 ≡ get_or (decimal (suc v)) 0 0 = first_byte (decimal (suc v)) n.some s in
    let big = n.head (omega arith) in
    let z : get_or t at 0 ≡ 48 → ⊥ = λ q. omega arith in
    rw (ne_eqb (get_or t at 0) 48 z) (run_is t limit at n.digits s (digits_most limit (suc v) h k) e)

numeral_of_end : (t : List ℕ) (limit at : ℕ) (w : List ℕ) → numeral_end limit t at ≡ at + length w → Stands t at w → numeral_at limit t at ≡ w
unfolding numeral_at
numeral_of_end t limit at w e s = rw (e, add-sub_cancel_left at (length w)) (stands_part w s)

-- A number that stands at an offset is read.
pub number_is : (t : List ℕ) (limit at v : ℕ) → numeral_end limit t at ≡ at + length (decimal v) → Stands t at (decimal v) → number_at limit t at ≡ found v (at + length (decimal v))
number_is t limit at v e s =
    let n = decimal_numeral v in
    number_of_law t limit at (numeral_of_end t limit at (decimal v) e s) n.some ∙ ap (λ (x : ℕ). found x (at + length (decimal v))) n.value

-- What stands at an offset: no digit, or a number.
pub data NumberOrNone (t : List ℕ) (limit at : ℕ) : Type 0 where
  absent : is_digit (class_of (get_or t at 0)) ≡ false → NumberOrNone t limit at
  present : (v : ℕ) → v < 10 ^ limit → Stands t at (decimal v) → numeral_end limit t at ≡ at + length (decimal v) → NumberOrNone t limit at

pub no_digit_number : (t : List ℕ) (limit at : ℕ) → is_digit (class_of (get_or t at 0)) ≡ false → number_at limit t at ≡ refused 16 at
unfolding numeral_at numeral_end is_digit class_of
no_digit_number t limit at e = number_none t limit at (empty e)
  where
    not_zero : is_digit (class_of (get_or t at 0)) ≡ false → get_or t at 0 ≡ 48 → ⊥
    not_zero e z = no_bool (sym (ap (λ (b : ℕ). is_digit (class_of b)) z) ∙ e)

    empty : is_digit (class_of (get_or t at 0)) ≡ false → numeral_at limit t at ≡ []
    empty e =
        let z : at - at ≡ 0 = omega arith in
        rw (ne_eqb (get_or t at 0) 48 (not_zero e), digits_none t limit at e, z) refl

-- Where a digit stands, the number's end lies after it.
digit_ends_after : (t : List ℕ) (limit at : ℕ) → 1 ≤ limit → is_digit (class_of (get_or t at 0)) ≡ true → at < numeral_end limit t at
unfolding numeral_end digits_end
digit_ends_after t zero at h e = absurd (omega arith)
digit_ends_after t (suc limit) at h e = by_zero (eqb (get_or t at 0) 48)
  where
    by_zero : (z : Bool) → at < cond z (at + 1) (digits_end (suc limit) t at)
    by_zero true = omega arith
    by_zero false = let f = (digits_range t limit (at + 1)).from in rw e (omega arith)

numeral_decimal : (t : List ℕ) (limit at : ℕ) (w : List ℕ) → Digits w → 0 < length w → Stands t at w → numeral_end limit t at ≡ at + length w → decimal (spelled_after 0 w) ≡ w
unfolding numeral_end spelled_after
numeral_decimal t limit at [] g h s e = absurd (omega arith)
numeral_decimal t limit at (d ∷ ds) g h s e = by_zero (eqb d 48) refl
  where
    by_zero : (z : Bool) → eqb d 48 ≡ z → decimal (spelled_after 0 (d ∷ ds)) ≡ d ∷ ds
    by_zero true q =
        let b : d ≡ 48 = eqb-true d 48 q in
        let r : eqb (get_or t at 0) 48 ≡ true = eq-eqb (get_or t at 0) 48 (stands_head s ∙ b) in
        let l : at + 1 ≡ at + suc (length ds) = sym (ap (λ z. cond z (at + 1) (digits_end limit t at)) r) ∙ e in
        alone ds (omega arith) b
      where
        alone : (ds : List ℕ) → length ds ≡ 0 → d ≡ 48 → decimal (spelled_after 0 (d ∷ ds)) ≡ d ∷ ds
        alone [] l b = ap (λ (x : ℕ). decimal (spelled_after 0 (x ∷ []))) b ∙ decimal_small 0 (omega arith) ∙ ap (λ (x : ℕ). x ∷ []) (sym b)
        alone (x ∷ xs) l b = absurd (omega arith)
    by_zero false q =
        let n = eqb-false d 48 q in
        decimal_of_digits (above n g) g
      where
        above : (d ≡ 48 → ⊥) → Digits (d ∷ ds) → 48 < d
        above n (one low high r) = omega arith

pub number_or_none : (t : List ℕ) (limit at : ℕ) → 1 ≤ limit → NumberOrNone t limit at
number_or_none t limit at h = by_digit (is_digit (class_of (get_or t at 0))) refl
  where
    by_digit : (b : Bool) → is_digit (class_of (get_or t at 0)) ≡ b → NumberOrNone t limit at
    by_digit false e = absent e
    by_digit true e =
        let i : at < length t = digit_inside t at e in
        let a : at < numeral_end limit t at = digit_ends_after t limit at h e in
        let r : numeral_end limit t at ≤ length t = (numeral_range t limit at).inside (omega arith) in
        let k : ℕ = numeral_end limit t at - at in
        let s : Stands t at (take k (drop at t)) = part_stands t at k (omega arith) in
        let d = length-drop at t in
        let l : length (take k (drop at t)) ≡ k = length-take-le k (drop at t) (omega arith) in
        let w : List ℕ = take k (drop at t) in
        let q : numeral_end limit t at ≡ at + length w = omega arith in
        let m : numeral_at limit t at ≡ w = numeral_of_end t limit at w q s in
        let g : Digits w = subst Digits m (numeral_digits t limit at) in
        let x : decimal (spelled_after 0 w) ≡ w = numeral_decimal t limit at w g (omega arith) s q in
        let f : number_at limit t at ≡ found (spelled_after 0 w) (at + length w) = number_of_law t limit at m (omega arith) in
        present (spelled_after 0 w)
        (number_below t limit at (spelled_after 0 w) (at + length w) h f)
        (subst (Stands t at) (sym x) s)
        (q ∙ ap (λ (z : List ℕ). at + length z) (sym x))

-- A number of at most limit digits, and the byte that ends it.
pub record NumberWord (limit stop v : ℕ) (w : List ℕ) : Type 0 where
  pub below : v < 10 ^ limit
  pub word : w ≡ number_text stop v

module _ (limit stop : ℕ) (positive : 1 ≤ limit) (no_digit : is_digit (class_of stop) ≡ false) where
  text_length : (v at : ℕ) → at + length (decimal v) + 1 ≡ at + length (number_text stop v)
  unfolding number_text
  text_length v at = let l = length-append (decimal v) (stop ∷ []) in omega arith

  number_complete : (t : List ℕ) (at v : ℕ) (w : List ℕ) → NumberWord limit stop v w → Stands t at w → number_to limit stop t at ≡ found v (at + length w)
  unfolding number_to number_text
  number_complete t at v w m s =
      let s' : Stands t at (decimal v ++ (stop ∷ [])) = subst (Stands t at) m.word s in
      let a : Stands t at (decimal v) = stands_first (decimal v) (stop ∷ []) s' in
      let b : Stands t (at + length (decimal v)) (stop ∷ []) = stands_second (decimal v) (stop ∷ []) s' in
      let x : get_or t (at + length (decimal v)) 0 ≡ stop = stands_head b in
      let f = b.fits in
      let d : is_digit (class_of (get_or t (at + length (decimal v)) 0)) ≡ false = ap (λ (c : ℕ). is_digit (class_of c)) x ∙ no_digit in
      then_found _ (number_is t limit at v (numeral_end_is t limit at v positive m.below a d) a)
      ∙ stop_found t stop v (at + length (decimal v)) (byte_is_law t (at + length (decimal v)) stop (omega arith) x)
      ∙ ap (λ (k : ℕ). found v k) (text_length v at ∙ ap (λ (z : List ℕ). at + length z) (sym m.word))

  -- The three ways in which a number can be met.
  data Met (t : List ℕ) (at : ℕ) (s : Step ℕ) : Type 0 where
    no_number : is_digit (class_of (get_or t at 0)) ≡ false → s ≡ refused 16 at → Met t at s
    unended : (v : ℕ) → v < 10 ^ limit → Stands t at (decimal v) → numeral_end limit t at ≡ at + length (decimal v) → byte_is t (at + length (decimal v)) stop ≡ false → s ≡ refused 16 (at + length (decimal v)) → Met t at s
    ended : (v : ℕ) → v < 10 ^ limit → Stands t at (number_text stop v) → s ≡ found v (at + length (number_text stop v)) → Met t at s

  met : (t : List ℕ) (at : ℕ) → Met t at (number_to limit stop t at)
  unfolding number_to number_text
  met t at = by_number (number_or_none t limit at positive)
    where
      by_stop : (v : ℕ) → v < 10 ^ limit → Stands t at (decimal v) → numeral_end limit t at ≡ at + length (decimal v) → (b : Bool) → byte_is t (at + length (decimal v)) stop ≡ b → Met t at (number_to limit stop t at)
      by_stop v k s e true h =
          let i = byte_inside t (at + length (decimal v)) stop h in
          ended v k (stands_append (decimal v) (stop ∷ []) s (stands_byte t (at + length (decimal v)) stop i.0 i.1))
          (then_found _ (number_is t limit at v e s) ∙ stop_found t stop v (at + length (decimal v)) h ∙ ap (λ (n : ℕ). found v n) (text_length v at))
      by_stop v k s e false h = unended v k s e h (then_found _ (number_is t limit at v e s) ∙ stop_refused t stop v (at + length (decimal v)) h)

      by_number : NumberOrNone t limit at → Met t at (number_to limit stop t at)
      by_number (absent e) = no_number e (then_refused _ (no_digit_number t limit at e))
      by_number (present v k s e) = by_stop v k s e (byte_is t (at + length (decimal v)) stop) refl

  number_sound : (t : List ℕ) (at v p : ℕ) → at ≤ length t → number_to limit stop t at ≡ found v p → Word (NumberWord limit stop) t at v p
  number_sound t at v p h e = by_case (met t at)
    where
      by_case : Met t at (number_to limit stop t at) → Word (NumberWord limit stop) t at v p
      by_case (no_number x y) = let z : ◌≡◌ {A = ℕ} 0 1 = cc in absurd (omega arith)
      by_case (unended u k s l x y) = let z : ◌≡◌ {A = ℕ} 0 1 = cc in absurd (omega arith)
      by_case (ended u k s y) =
          let same : u ≡ v = cc in
          let end : p ≡ at + length (number_text stop u) = cc in
          record { word = number_text stop u; member = record { below = subst (λ (x : ℕ). x < 10 ^ limit) same k; word = ap (number_text stop) same }; ends = end; stands = s }

  zero_below : 0 < 10 ^ limit
  zero_below = one-le-pow limit 10 (omega arith)

  number_extends : (t : List ℕ) (at p : ℕ) → at ≤ length t → number_to limit stop t at ≡ refused 16 p → Extends (NumberWord limit stop) t at p
  unfolding number_text
  number_extends t at p h e = by_case (met t at)
    where
      by_case : Met t at (number_to limit stop t at) → Extends (NumberWord limit stop) t at p
      by_case (no_number x y) =
          let q : p ≡ at = cc in
          record { value = 0; word = number_text stop 0; member = record { below = zero_below; word = refl }; rest = number_text stop 0; whole = ap (λ (k : ℕ). take k t ++ number_text stop 0) q }
      by_case (unended v k s l x y) =
          let q : p ≡ at + length (decimal v) = cc in
          record { value = v; word = number_text stop v; member = record { below = k; word = refl }; rest = stop ∷ []; whole = ap (λ (n : ℕ). take n t ++ (stop ∷ [])) q ∙ ap (λ (z : List ℕ). z ++ (stop ∷ [])) s.is ∙ append_assoc (take at t) (decimal v) (stop ∷ []) }
      by_case (ended v k s y) = let z : ◌≡◌ {A = ℕ} 0 1 = cc in absurd (omega arith)

  number_place : (t : List ℕ) (at p : ℕ) → at ≤ length t → number_to limit stop t at ≡ refused 16 p → (at ≤ p) × (p ≤ length t)
  number_place t at p h e = by_case (met t at)
    where
      by_case : Met t at (number_to limit stop t at) → (at ≤ p) × (p ≤ length t)
      by_case (no_number x y) = let q : p ≡ at = cc in (omega arith, omega arith)
      by_case (unended v k s l x y) = let q : p ≡ at + length (decimal v) = cc in let f = s.fits in (omega arith, omega arith)
      by_case (ended v k s y) = let z : ◌≡◌ {A = ℕ} 0 1 = cc in absurd (omega arith)

  number_same : (t u : List ℕ) (at p : ℕ) → at ≤ length t → number_to limit stop t at ≡ refused 16 p → take (p + 1) t ≡ take (p + 1) u → number_to limit stop u at ≡ refused 16 p
  unfolding number_to
  number_same t u at p h e k = by_case (met t at)
    where
      by_case : Met t at (number_to limit stop t at) → number_to limit stop u at ≡ refused 16 p
      by_case (no_number x y) =
          let q : at ≡ p = cc in
          let r : get_or t at 0 ≡ get_or u at 0 = read_same t u (p + 1) at k (omega arith) in
          then_refused _ (no_digit_number u limit at (ap (λ (b : ℕ). is_digit (class_of b)) (sym r) ∙ x)) ∙ ap (λ (n : ℕ). refused 16 n) q
      by_case (unended v i s l x y) =
          let q : at + length (decimal v) ≡ p = cc in
          let s' : Stands u at (decimal v) = stands_same (p + 1) k (omega arith) s in
          let m : numeral_end limit u at ≡ at + length (decimal v) = numeral_same t u limit at (p + 1) k (omega arith) (omega arith) ∙ l in
          let b : byte_is u (at + length (decimal v)) stop ≡ false = byte_same stop t u (at + length (decimal v)) x (subst (λ (n : ℕ). take (n + 1) t ≡ take (n + 1) u) (sym q) k) in
          then_found _ (number_is u limit at v m s') ∙ stop_refused u stop v (at + length (decimal v)) b ∙ ap (λ (n : ℕ). refused 16 n) q
      by_case (ended v i s y) = let z : ◌≡◌ {A = ℕ} 0 1 = cc in absurd (omega arith)

  pub reads_number : Reads (number_to limit stop) (NumberWord limit stop) (NumberWord limit stop)
  reads_number =
      record {
        complete = number_complete;
        sound = number_sound;
        not_malformed = λ t at a w m s. read (number_complete t at a w m s);
        same = number_same;
        place = number_place;
        extends = number_extends;
        some = (0, number_text stop 0, record { below = zero_below; word = refl });
        well = λ a w m. m;
      }
