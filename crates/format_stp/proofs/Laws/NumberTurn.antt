-- One turn of each loop over the digits of a number.
use Prim.Native.Nat.{ℕ, zero, suc, ◌+◌, ◌*◌, ◌-◌, ◌^◌, ◌≤◌, ◌<◌, min}
use Rattle.std.proofs.Common.{pow-suc, mul-le-mul_right, mul-le-mul_left, sym, ◌∙◌, subst, eq-eqb, ne_eqb, eqb-true, lt-ltb}
use Rattle.std.proofs.Math.Nat.{one-le-pow, pow-le-pow_right}
use native.Mathlib.Omega.{arith}
use Rattle.std.specs.Prelude.{Bool, ◌&&◌, ◌||◌, cond, List, [], ◌≡◌, ltb, length, get_or}
use Rattle.std.proofs.Math.Bool.{true, false}
use Rattle.std.proofs.Math.Path.{refl, ap}
use Rattle.std.proofs.Math.Dec.{eqb}
use Rattle.std.proofs.lemmas.Bool.{eqb-false}
use Rattle.base_finite.specs.Laws.Test.{and_left, and_right, same_test_law}
use Rattle.base_limits.specs.Limits.{max_digits}
use Rattle.format_read.proofs.Laws.Bytes.{read_inside, no_bool}
use Rattle.format_read.specs.Step.{found, refused}
use Rattle.format_read.proofs.Laws.Byte.{class_zero, class_digit, is_zero, digit_inside, digit_facts}
use Rattle.format_read.specs.Number.{class_of, class_number, is_class, is_digit}
use Rattle.format_read.specs.declared.Class.{Class}
use Rattle.format_read.specs.declared.Class.TheVariants.{Zero, Digit, LineEnd, Comma, Colon, Keep, Also, Other}
use Rattle.format_stp.proofs.Laws.ByByte.{byte_passes, byte_fails}
use Rattle.format_stp.specs.StpNumber.{opens, with_digit, goes_on, ends_free, digits_after, more_after, free_to, stop_byte}

-- ---- the bytes of a number

stop_no_digit : (spaced : Bool) → is_digit (class_of (stop_byte spaced)) ≡ false
unfolding is_digit class_of stop_byte
stop_no_digit true = refl
stop_no_digit false = refl

pub stop_some : (spaced : Bool) → 0 < stop_byte spaced
unfolding stop_byte
stop_some true = omega arith
stop_some false = omega arith

module _ (free : ℕ → Bool) (high : ℕ) (spaced : Bool) (x : ℕ) (t : List ℕ) (at : ℕ) where
  abbrev stop : ℕ
  stop = stop_byte spaced

  abbrev b : ℕ
  b = get_or t at 0

  pub end_free : b ≡ stop → free x ≡ true → digits_after free high stop 0 x t at ≡ found x (at + 1)
  unfolding digits_after ends_free
  end_free e f = let s = stop_some spaced in byte_passes (ends_free free stop x) (λ b t at. found x at) t at (read_inside t at (omega arith)) (rw (eq-eqb b stop e, f) refl)

  pub end_taken : b ≡ stop → free x ≡ false → digits_after free high stop 0 x t at ≡ refused 16 at
  unfolding digits_after ends_free
  end_taken e f = byte_fails (ends_free free stop x) (λ b t at. found x at) t at (rw (eq-eqb b stop e, f) refl)

  pub end_other : (b ≡ stop → ⊥) → digits_after free high stop 0 x t at ≡ refused 16 at
  unfolding digits_after ends_free
  end_other n = byte_fails (ends_free free stop x) (λ b t at. found x at) t at (rw (ne_eqb b stop n) refl)

  -- A digit that goes on.
  pub digits_on : (more : ℕ) → 0 < more → goes_on free high (more - 1) x b ≡ true → digits_after free high stop more x t at ≡ digits_after free high stop (more - 1) (with_digit x b) t (at + 1)
  unfolding digits_after goes_on
  digits_on zero h g = absurd (omega arith)
  digits_on (suc more) h g = by_digit (is_digit (class_of b)) refl (subst (λ (k : ℕ). (is_digit (class_of b) && opens free high k (with_digit x b)) ≡ true) z g) ∙ ap (λ (k : ℕ). digits_after free high stop k (with_digit x b) t (at + 1)) (sym z)
    where
      z : suc more - 1 ≡ more
      z = omega arith

      by_digit : (c : Bool) → is_digit (class_of b) ≡ c → (is_digit (class_of b) && opens free high more (with_digit x b)) ≡ true → digits_after free high stop (suc more) x t at ≡ digits_after free high stop more (with_digit x b) t (at + 1)
      by_digit false d g = no_bool (sym g ∙ ap (λ (c : Bool). c && opens free high more (with_digit x b)) d)
      by_digit true d g =
          byte_passes (λ b. (is_digit (class_of b) && opens free high more (with_digit x b)) || ends_free free stop x b) (λ b. cond (is_digit (class_of b)) (digits_after free high stop more (with_digit x b)) (λ t at. found x at)) t at
          (digit_inside t at d) (rw g refl)
          ∙ ap (λ (c : Bool). cond c (digits_after free high stop more (with_digit x b)) (λ t at. found x at) t (at + 1)) d

  -- No digit goes on: the number ends here or not at all.
  pub digits_stay : (more : ℕ) → 0 < more → goes_on free high (more - 1) x b ≡ false → digits_after free high stop more x t at ≡ digits_after free high stop 0 x t at
  unfolding digits_after ends_free
  digits_stay zero h g = absurd (omega arith)
  digits_stay (suc more) h g = by_end (eqb b stop && free x) refl
    where
      z : suc more - 1 ≡ more
      z = omega arith

      g' : goes_on free high more x b ≡ false
      g' = subst (λ (k : ℕ). goes_on free high k x b ≡ false) z g

      by_end : (c : Bool) → (eqb b stop && free x) ≡ c → digits_after free high stop (suc more) x t at ≡ digits_after free high stop 0 x t at
      by_end false e =
          byte_fails (λ b. goes_on free high more x b || ends_free free stop x b) (λ b. cond (is_digit (class_of b)) (digits_after free high stop more (with_digit x b)) (λ t at. found x at)) t at (rw (g', e) refl)
          ∙ sym (byte_fails (ends_free free stop x) (λ b t at. found x at) t at e)
      by_end true e =
          let same : b ≡ stop = eqb-true b stop (first (eqb b stop) (free x) e) in
          let some = stop_some spaced in
          let inside : at < length t = read_inside t at (omega arith) in
          let d : is_digit (class_of b) ≡ false = ap (λ (k : ℕ). is_digit (class_of k)) same ∙ stop_no_digit spaced in
          byte_passes (λ b. goes_on free high more x b || ends_free free stop x b) (λ b. cond (is_digit (class_of b)) (digits_after free high stop more (with_digit x b)) (λ t at. found x at)) t at inside (rw (g', e) refl)
          ∙ ap (λ (c : Bool). cond c (digits_after free high stop more (with_digit x b)) (λ t at. found x at) t (at + 1)) d
          ∙ sym (byte_passes (ends_free free stop x) (λ b t at. found x at) t at inside e)
        where
          first : (c d : Bool) → (c && d) ≡ true → c ≡ true
          first true d e = refl
          first false d e = no_bool (sym e)

  module _ (limit : ℕ) where
    pub number_on : goes_on free high (more_after limit b) 0 b ≡ true → free_to free high stop limit t at ≡ digits_after free high stop (more_after limit b) (with_digit 0 b) t (at + 1)
    unfolding free_to goes_on
    number_on g =
        byte_passes (λ b. goes_on free high (more_after limit b) 0 b) (λ b. digits_after free high stop (more_after limit b) (with_digit 0 b)) t at (digit_inside t at (first (is_digit (class_of b)) _ g)) g
      where
        first : (c d : Bool) → (c && d) ≡ true → c ≡ true
        first true d e = refl
        first false d e = no_bool (sym e)

    pub number_none : goes_on free high (more_after limit b) 0 b ≡ false → free_to free high stop limit t at ≡ refused 16 at
    unfolding free_to
    number_none g = byte_fails (λ b. goes_on free high (more_after limit b) 0 b) (λ b. digits_after free high stop (more_after limit b) (with_digit 0 b)) t at g

-- ---- digits

number_digit : (k : Class) → class_number k ≡ 1 → is_digit k ≡ true
unfolding class_number is_digit
number_digit Zero e = refl
number_digit Digit e = refl
number_digit LineEnd e = absurd (omega arith)
number_digit Comma e = absurd (omega arith)
number_digit Colon e = absurd (omega arith)
number_digit Keep e = absurd (omega arith)
number_digit Also e = absurd (omega arith)
number_digit Other e = absurd (omega arith)

module _ (t : List ℕ) (at : ℕ) where
  pub digit_zero : is_class t at Zero ≡ true → is_digit (class_of (get_or t at 0)) ≡ true
  unfolding is_digit
  digit_zero e = ap is_digit (class_zero (eqb-true (get_or t at 0) 48 (sym (is_zero t at) ∙ e)))

  pub digit_other : is_class t at Zero ≡ false → is_class t at Digit ≡ is_digit (class_of (get_or t at 0))
  unfolding is_class class_number
  digit_other e = same_test_law (is_class t at Digit) (is_digit (class_of (get_or t at 0))) to from
    where
      to : (ltb at (length t) && eqb (class_number (class_of (get_or t at 0))) 1) ≡ true → is_digit (class_of (get_or t at 0)) ≡ true
      to h = number_digit (class_of (get_or t at 0)) (eqb-true (class_number (class_of (get_or t at 0))) 1 (and_right (ltb at (length t)) (eqb (class_number (class_of (get_or t at 0))) 1) h))

      from : is_digit (class_of (get_or t at 0)) ≡ true → (ltb at (length t) && eqb (class_number (class_of (get_or t at 0))) 1) ≡ true
      from h =
          let f = digit_facts (get_or t at 0) h in
          let n : get_or t at 0 ≡ 48 → ⊥ = eqb-false (get_or t at 0) 48 (sym (is_zero t at) ∙ e) in
          rw (lt-ltb at (length t) (digit_inside t at h), class_digit (get_or t at 0) f.0 f.1 n) refl

module _ (free : ℕ → Bool) (high more x b : ℕ) where
  pub goes_digit : is_digit (class_of b) ≡ true → goes_on free high more x b ≡ opens free high more (with_digit x b)
  unfolding goes_on
  goes_digit d = rw d refl

  pub goes_none : is_digit (class_of b) ≡ false → goes_on free high more x b ≡ false
  unfolding goes_on
  goes_none d = rw d refl

  pub goes_facts : goes_on free high more x b ≡ true → (48 ≤ b) × (b ≤ 57)
  unfolding goes_on
  goes_facts g = digit_facts b (and_left (is_digit (class_of b)) (opens free high more (with_digit x b)) g)

pub goes_inside : (free : ℕ → Bool) (high more x : ℕ) (t : List ℕ) (at : ℕ) → goes_on free high more x (get_or t at 0) ≡ true → at < length t
goes_inside free high more x t at g = let f = goes_facts free high more x (get_or t at 0) g in let l = f.0 in read_inside t at (omega arith)

pub more_none : (limit b : ℕ) → b ≡ 48 → more_after limit b ≡ 0
unfolding more_after
more_none limit b e = rw (eq-eqb b 48 e) refl

pub more_some : (limit b : ℕ) → (b ≡ 48 → ⊥) → more_after limit b ≡ limit - 1
unfolding more_after
more_some limit b n = rw (ne_eqb b 48 n) refl

-- ---- how large the numbers are

-- The first digit, with those that may follow it.
pub first_fits : (limit b : ℕ) → 48 ≤ b → b ≤ 57 → (with_digit 0 b + 1) * 10 ^ more_after (min limit max_digits) b ≤ 10 ^ max_digits
unfolding with_digit
first_fits limit b l h =
    let m : ℕ = more_after (min limit max_digits) b in
    let few : m ≤ max_digits - 1 = by_zero (eqb b 48) refl in
    let p : 10 ^ m ≤ 10 ^ (max_digits - 1) = pow-le-pow_right {n = 10} (omega arith) {i = m} {j = max_digits - 1} few in
    let k : 0 * 10 + (b - 48) + 1 ≤ 10 = omega arith in
    let r : (0 * 10 + (b - 48) + 1) * 10 ^ m ≤ 10 * 10 ^ m = mul-le-mul_right (10 ^ m) k in
    omega arith
  where
    by_zero : (c : Bool) → eqb b 48 ≡ c → more_after (min limit max_digits) b ≤ max_digits - 1
    by_zero true e = let z = more_none (min limit max_digits) b (eqb-true b 48 e) in omega arith
    by_zero false e = let z = more_some (min limit max_digits) b (eqb-false b 48 e) in omega arith

pub digit_fits : (x more : ℕ) → 0 < more → (x + 1) * 10 ^ more ≤ 10 ^ max_digits → x * 10 ≤ 10 ^ max_digits
digit_fits x zero h e = absurd (omega arith)
digit_fits x (suc more) h e =
    let p : 1 ≤ 10 ^ more = one-le-pow more 10 (omega arith) in
    let w : (x + 1) * (10 ^ more * 10) ≤ 10 ^ max_digits = subst (λ (k : ℕ). (x + 1) * k ≤ 10 ^ max_digits) (pow-suc 10 more) e in
    let r : (x + 1) * 10 * 1 ≤ (x + 1) * 10 * 10 ^ more = mul-le-mul_left ((x + 1) * 10) p in
    omega arith

pub digit_left : (x b more : ℕ) → 0 < more → 48 ≤ b → b ≤ 57 → (x + 1) * 10 ^ more ≤ 10 ^ max_digits → (with_digit x b + 1) * 10 ^ (more - 1) ≤ 10 ^ max_digits
unfolding with_digit
digit_left x b zero h l m e = absurd (omega arith)
digit_left x b (suc more) h l m e =
    let z : suc more - 1 ≡ more = omega arith in
    let w : (x + 1) * (10 ^ more * 10) ≤ 10 ^ max_digits = subst (λ (k : ℕ). (x + 1) * k ≤ 10 ^ max_digits) (pow-suc 10 more) e in
    let k : x * 10 + (b - 48) + 1 ≤ (x + 1) * 10 = omega arith in
    let r : (x * 10 + (b - 48) + 1) * 10 ^ more ≤ (x + 1) * 10 * 10 ^ more = mul-le-mul_right (10 ^ more) k in
    let y : (x * 10 + (b - 48) + 1) * 10 ^ more ≤ 10 ^ max_digits = omega arith in
    subst (λ (k : ℕ). (x * 10 + (b - 48) + 1) * 10 ^ k ≤ 10 ^ max_digits) (sym z) y
