-- Laws of single bytes: their classes, and which of them stand for one byte.
use Rattle.std.specs.Prelude.{ℕ, ◌+◌, ◌≤◌, ◌<◌, ◌≡◌, refl, Bool, true, false, ◌&&◌, cond, List, [], ◌∷◌, length, get_or, eqb, ltb, leb}
use Rattle.std.proofs.Common.{arith, ap, sym, ◌∙◌, ltb-true, leb-true, eqb-true, le-leb, eq-eqb, ne_eqb}
use Rattle.std.proofs.lemmas.Bool.{eqb-false, lt-leb}
use Rattle.format_read.specs.Number.{class_of, is_digit, class_number, is_class, class_step, keep_letter, also_letter}
use Rattle.format_read.specs.declared.Class.{Class}
use Rattle.format_read.specs.declared.Class.TheVariants.{Zero, Digit, LineEnd, Comma, Colon, Keep, Also, Other}
use Rattle.format_write.specs.Key.{colon, comma, newline}
use Rattle.format_read.specs.Bytes.{byte_is, fixed_at}
use Rattle.format_read.specs.Step.{found, refused}
use Rattle.format_read.proofs.Laws.Bytes.{no_bool, read_inside, byte_is_law, byte_not}

pub class_zero : {b : ℕ} → b ≡ 48 → class_of b ≡ Zero
unfolding class_of
class_zero e = ap class_of e

pub class_digit : (b : ℕ) → 48 ≤ b → b ≤ 57 → (b ≡ 48 → ⊥) → class_of b ≡ Digit
unfolding class_of
class_digit b h k n = simp (le-leb 48 b h, le-leb b 57 k, ne_eqb b 48 n)

pub class_line_end : {b : ℕ} → b ≡ 10 → class_of b ≡ LineEnd
unfolding class_of
class_line_end e = ap class_of e

pub class_comma : {b : ℕ} → b ≡ 44 → class_of b ≡ Comma
unfolding class_of
class_comma e = ap class_of e

pub class_colon : {b : ℕ} → b ≡ 58 → class_of b ≡ Colon
unfolding class_of
class_colon e = ap class_of e

pub class_keep : {b : ℕ} → b ≡ 107 → class_of b ≡ Keep
unfolding class_of
class_keep e = ap class_of e

pub class_also : {b : ℕ} → b ≡ 97 → class_of b ≡ Also
unfolding class_of
class_also e = ap class_of e

pub class_low : (b : ℕ) → b < 48 → (b ≡ 10 → ⊥) → (b ≡ 44 → ⊥) → class_of b ≡ Other
unfolding class_of
class_low b h n m =
    let c : b ≡ 58 → ⊥ = λ e. omega arith in
    let k : b ≡ 107 → ⊥ = λ e. omega arith in
    let l : b ≡ 97 → ⊥ = λ e. omega arith in
    simp (lt-leb 48 b h, ne_eqb b 10 n, ne_eqb b 44 m, ne_eqb b 58 c, ne_eqb b 107 k, ne_eqb b 97 l)

pub class_high : (b : ℕ) → 58 ≤ b → (b ≡ 58 → ⊥) → (b ≡ 107 → ⊥) → (b ≡ 97 → ⊥) → class_of b ≡ Other
unfolding class_of
class_high b h c k l =
    let n : b ≡ 10 → ⊥ = λ e. omega arith in
    let m : b ≡ 44 → ⊥ = λ e. omega arith in
    simp (le-leb 48 b (omega arith), lt-leb b 57 (omega arith), ne_eqb b 10 n, ne_eqb b 44 m, ne_eqb b 58 c, ne_eqb b 107 k, ne_eqb b 97 l)

-- The digits are the bytes from 48 to 57.
pub digit_test : (b : ℕ) → is_digit (class_of b) ≡ (leb 48 b && leb b 57)
unfolding class_of is_digit
digit_test b = by_tests (leb 48 b && leb b 57) (eqb b 48) (eqb b 10) (eqb b 44) (eqb b 58) (eqb b 107) (eqb b 97)
  where
    by_tests : (d z n m c k l : Bool) → is_digit (cond d (cond z Zero Digit) (cond n LineEnd (cond m Comma (cond c Colon (cond k Keep (cond l Also Other)))))) ≡ d
    by_tests true true n m c k l = refl
    by_tests true false n m c k l = refl
    by_tests false z true m c k l = refl
    by_tests false z false true c k l = refl
    by_tests false z false false true k l = refl
    by_tests false z false false false true l = refl
    by_tests false z false false false false true = refl
    by_tests false z false false false false false = refl

pub digit_byte : (b : ℕ) → 48 ≤ b → b ≤ 57 → is_digit (class_of b) ≡ true
digit_byte b h k = digit_test b ∙ simp (le-leb 48 b h, le-leb b 57 k)

pub digit_facts : (b : ℕ) → is_digit (class_of b) ≡ true → (48 ≤ b) × (b ≤ 57)
digit_facts b e = by_tests (leb 48 b) (leb b 57) refl refl (sym (digit_test b) ∙ e)
  where
    by_tests : (p q : Bool) → leb 48 b ≡ p → leb b 57 ≡ q → (p && q) ≡ true → (48 ≤ b) × (b ≤ 57)
    by_tests true true x y e = (leb-true 48 b x, leb-true b 57 y)
    by_tests true false x y e = no_bool (sym e)
    by_tests false q x y e = no_bool (sym e)

pub digit_inside : (t : List ℕ) (at : ℕ) → is_digit (class_of (get_or t at 0)) ≡ true → at < length t
digit_inside t at e = let f = digit_facts (get_or t at 0) e in read_inside t at (omega arith)

-- What the number of a class says of its byte.
pub record Facts (b number : ℕ) : Type 0 where
  pub zero : number ≡ 0 → b ≡ 48
  pub end : number ≡ 2 → b ≡ 10
  pub comma : number ≡ 3 → b ≡ 44
  pub colon : number ≡ 4 → b ≡ 58
  pub keep : number ≡ 5 → b ≡ 107
  pub also : number ≡ 6 → b ≡ 97

not_equal : {A : Type 0} (m n : ℕ) → eqb m n ≡ false → m ≡ n → A
not_equal m n h e = no_bool (sym (eq-eqb m n e) ∙ h)

pub class_facts : (b : ℕ) → Facts b (class_number (class_of b))
unfolding class_of class_number
class_facts b = by_tests (leb 48 b && leb b 57) (eqb b 48) (eqb b 10) (eqb b 44) (eqb b 58) (eqb b 107) (eqb b 97) refl refl refl refl refl refl
  where
    none : (number : ℕ) → eqb number 0 ≡ false → eqb number 2 ≡ false → eqb number 3 ≡ false → eqb number 4 ≡ false → eqb number 5 ≡ false → eqb number 6 ≡ false → Facts b number
    none r x0 x2 x3 x4 x5 x6 = record { zero = not_equal r 0 x0; end = not_equal r 2 x2; comma = not_equal r 3 x3; colon = not_equal r 4 x4; keep = not_equal r 5 x5; also = not_equal r 6 x6 }

    by_tests : (d z n m c k l : Bool) → eqb b 48 ≡ z → eqb b 10 ≡ n → eqb b 44 ≡ m → eqb b 58 ≡ c → eqb b 107 ≡ k → eqb b 97 ≡ l
        → Facts b (class_number (cond d (cond z Zero Digit) (cond n LineEnd (cond m Comma (cond c Colon (cond k Keep (cond l Also Other)))))))
    by_tests true true n m c k l ez en em ec ek el = record { zero = λ _. eqb-true b 48 ez; end = not_equal 0 2 refl; comma = not_equal 0 3 refl; colon = not_equal 0 4 refl; keep = not_equal 0 5 refl; also = not_equal 0 6 refl }
    by_tests true false n m c k l ez en em ec ek el = none 1 refl refl refl refl refl refl
    by_tests false z true m c k l ez en em ec ek el = record { zero = not_equal 2 0 refl; end = λ _. eqb-true b 10 en; comma = not_equal 2 3 refl; colon = not_equal 2 4 refl; keep = not_equal 2 5 refl; also = not_equal 2 6 refl }
    by_tests false z false true c k l ez en em ec ek el = record { zero = not_equal 3 0 refl; end = not_equal 3 2 refl; comma = λ _. eqb-true b 44 em; colon = not_equal 3 4 refl; keep = not_equal 3 5 refl; also = not_equal 3 6 refl }
    by_tests false z false false true k l ez en em ec ek el = record { zero = not_equal 4 0 refl; end = not_equal 4 2 refl; comma = not_equal 4 3 refl; colon = λ _. eqb-true b 58 ec; keep = not_equal 4 5 refl; also = not_equal 4 6 refl }
    by_tests false z false false false true l ez en em ec ek el = record { zero = not_equal 5 0 refl; end = not_equal 5 2 refl; comma = not_equal 5 3 refl; colon = not_equal 5 4 refl; keep = λ _. eqb-true b 107 ek; also = not_equal 5 6 refl }
    by_tests false z false false false false true ez en em ec ek el = record { zero = not_equal 6 0 refl; end = not_equal 6 2 refl; comma = not_equal 6 3 refl; colon = not_equal 6 4 refl; keep = not_equal 6 5 refl; also = λ _. eqb-true b 97 el }
    by_tests false z false false false false false ez en em ec ek el = none 7 refl refl refl refl refl refl

-- A class that stands for one byte.
class_stands : (t : List ℕ) (at s : ℕ) (kind : Class) → (class_number (class_of (get_or t at 0)) ≡ class_number kind → get_or t at 0 ≡ s) → (get_or t at 0 ≡ s → class_of (get_or t at 0) ≡ kind)
    → is_class t at kind ≡ byte_is t at s
unfolding is_class byte_is
class_stands t at s kind there back = ap (λ b. ltb at (length t) && b) (by_byte_law (eqb (get_or t at 0) s) refl)
  where
    by_byte_law : (y : Bool) → eqb (get_or t at 0) s ≡ y → eqb (class_number (class_of (get_or t at 0))) (class_number kind) ≡ eqb (get_or t at 0) s
    by_byte_law true e = eq-eqb _ _ (ap class_number (back (eqb-true (get_or t at 0) s e))) ∙ sym e
    by_byte_law false e = ne_eqb _ _ (λ z. eqb-false (get_or t at 0) s e (there z)) ∙ sym e

pub is_line_end : (t : List ℕ) (at : ℕ) → is_class t at LineEnd ≡ byte_is t at newline
unfolding class_number
is_line_end t at = class_stands t at 10 LineEnd (class_facts (get_or t at 0)).end class_line_end

pub is_comma_law : (t : List ℕ) (at : ℕ) → is_class t at Comma ≡ byte_is t at comma
unfolding class_number
is_comma_law t at = class_stands t at 44 Comma (class_facts (get_or t at 0)).comma class_comma

pub is_colon : (t : List ℕ) (at : ℕ) → is_class t at Colon ≡ byte_is t at colon
unfolding class_number
is_colon t at = class_stands t at 58 Colon (class_facts (get_or t at 0)).colon class_colon

pub is_keep : (t : List ℕ) (at : ℕ) → is_class t at Keep ≡ byte_is t at keep_letter
unfolding class_number
is_keep t at = class_stands t at 107 Keep (class_facts (get_or t at 0)).keep class_keep

pub is_also : (t : List ℕ) (at : ℕ) → is_class t at Also ≡ byte_is t at also_letter
unfolding class_number
is_also t at = class_stands t at 97 Also (class_facts (get_or t at 0)).also class_also

pub is_zero : (t : List ℕ) (at : ℕ) → is_class t at Zero ≡ eqb (get_or t at 0) 48
unfolding class_number
is_zero t at = class_stands t at 48 Zero (class_facts (get_or t at 0)).zero class_zero ∙ by_byte_law (eqb (get_or t at 0) 48) refl
  where
    by_byte_law : (y : Bool) → eqb (get_or t at 0) 48 ≡ y → byte_is t at 48 ≡ eqb (get_or t at 0) 48
    by_byte_law true e = let b : get_or t at 0 ≡ 48 = eqb-true (get_or t at 0) 48 e in byte_is_law t at 48 (read_inside t at (omega arith)) b ∙ sym e
    by_byte_law false e = byte_not t at 48 (eqb-false (get_or t at 0) 48 e) ∙ sym e

pub class_inside : (t : List ℕ) (at : ℕ) (kind : Class) → is_class t at kind ≡ true → at < length t
unfolding is_class
class_inside t at kind e = by_place (ltb at (length t)) refl e
  where
    by_place : (y : Bool) → ltb at (length t) ≡ y → (y && eqb (class_number (class_of (get_or t at 0))) (class_number kind)) ≡ true → at < length t
    by_place true h e = ltb-true at (length t) h
    by_place false h e = no_bool (sym e)

-- The step of such a class is that of its byte.
pub comma_step : (t : List ℕ) (at : ℕ) → class_step Comma t at ≡ fixed_at (comma ∷ []) t at
unfolding class_step fixed_at
comma_step t at = ap (λ b. cond b (found 0 (at + 1)) (refused 16 at)) (is_comma_law t at)

pub colon_step : (t : List ℕ) (at : ℕ) → class_step Colon t at ≡ fixed_at (colon ∷ []) t at
unfolding class_step fixed_at
colon_step t at = ap (λ b. cond b (found 0 (at + 1)) (refused 16 at)) (is_colon t at)
