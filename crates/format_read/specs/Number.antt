-- The parts of a line (document 01, 'Survey text and printed plan'): fixed bytes, and numbers of so many decimal digits with no
-- leading zero. Past its end a text reads as 0, which is no byte of a well-formed text, so that a text that stops early is refused
-- at its length.
use Rattle.std.specs.Prelude.{ℕ, zero, suc, ◌+◌, ◌-◌, ◌^◌, ◌<◌, Bool, true, false, ◌&&◌, cond, List, [], ◌∷◌, ◌++◌, length, get_or, take, drop, eqb, ltb, leb}
use Prim.Native.Char.{code}
use Rattle.format_write.specs.Key.{colon, comma, newline}
use Rattle.format_read.specs.declared.Class.{Class}
use Rattle.format_read.specs.declared.Class.TheVariants.{Zero, Digit, LineEnd, Comma, Colon, Keep, Also, Other}
use Rattle.format_write.specs.Decimal.{decimal, spelled_after}
use Rattle.format_read.specs.Bytes.{fixed_at}
use Rattle.format_read.specs.Step.{Step, found, refused, ◌then◌}

-- The digit 0.
abbrev pub zero_digit : ℕ
zero_digit = 48

-- The letter with which the line of a kept track begins, and no other line of a printed plan.
abbrev pub keep_letter : ℕ
keep_letter = code "k"

-- The letter with which an also line begins, and no other line of a survey's text.
abbrev pub also_letter : ℕ
also_letter = code "a"

unfoldable pub class_of : ℕ → Class
class_of b =
    cond (leb zero_digit b && leb b 57)
    (cond (eqb b zero_digit) Zero Digit)
    (cond (eqb b newline) LineEnd (cond (eqb b comma) Comma (cond (eqb b colon) Colon (cond (eqb b keep_letter) Keep (cond (eqb b also_letter) Also Other)))))

unfoldable pub is_digit : Class → Bool
is_digit Zero = true
is_digit Digit = true
is_digit LineEnd = false
is_digit Comma = false
is_digit Colon = false
is_digit Keep = false
is_digit Also = false
is_digit Other = false

-- Two classes are the same where their numbers are.
unfoldable pub class_number : Class → ℕ
class_number Zero = 0
class_number Digit = 1
class_number LineEnd = 2
class_number Comma = 3
class_number Colon = 4
class_number Keep = 5
class_number Also = 6
class_number Other = 7

-- A byte of this class stands at an offset.
unfoldable pub is_class : List ℕ → (at : ℕ) → Class → Bool
is_class t at kind = ltb at (length t) && eqb (class_number (class_of (get_or t at 0))) (class_number kind)

-- The same as a step, whose value is 0.
unfoldable pub class_step : Class → List ℕ → (at : ℕ) → Step ℕ
class_step kind t at = cond (is_class t at kind) (found 0 (at + 1)) (refused 16 at)

-- Where the digits from offset at on end, of which at most limit are taken.
unfoldable pub digits_end : (limit : ℕ) → List ℕ → (at : ℕ) → ℕ
digits_end zero t at = at
digits_end (suc limit) t at = cond (is_digit (class_of (get_or t at 0))) (digits_end limit t (at + 1)) at

-- After a leading 0 comes no digit.
unfoldable pub numeral_end : (limit : ℕ) → List ℕ → (at : ℕ) → ℕ
numeral_end limit t at = cond (eqb (get_or t at 0) zero_digit) (at + 1) (digits_end limit t at)

unfoldable pub numeral_at : (limit : ℕ) → List ℕ → (at : ℕ) → List ℕ
numeral_at limit t at = take (numeral_end limit t at - at) (drop at t)

-- A number of at most limit digits.
unfoldable pub number_at : (limit : ℕ) → List ℕ → (at : ℕ) → Step ℕ
number_at limit t at =
    cond (eqb (length (numeral_at limit t at)) 0)
    (refused 16 at)
    (found (spelled_after 0 (numeral_at limit t at)) (at + length (numeral_at limit t at)))

-- The byte that ends a number.
unfoldable pub stop_of : (is_comma : Bool) → ℕ
stop_of true = comma
stop_of false = newline

-- A number, and the byte that ends it.
unfoldable pub number_to : (limit stop : ℕ) → List ℕ → (at : ℕ) → Step ℕ
number_to limit stop t at = number_at limit t at then λ n p. fixed_at (stop ∷ []) t p then λ z q. found n q

-- A line of a key and one number of at most limit digits.
unfoldable pub number_line : (key : List ℕ) (limit : ℕ) → List ℕ → (at : ℕ) → Step ℕ
number_line key limit t at = fixed_at key t at then λ z p. number_to limit newline t p

-- The text of a number and the byte that ends it.
unfoldable pub number_text : (stop x : ℕ) → List ℕ
number_text stop x = decimal x ++ (stop ∷ [])

-- A number of at most limit digits.
abbrev pub OfDigits : (limit x : ℕ) → Type 0
OfDigits limit x = x < 10 ^ limit

-- The bytes that a line of a key and a number can take.
abbrev pub line_bytes : (key : List ℕ) (limit : ℕ) → ℕ
line_bytes key limit = length key + (limit + 1)
