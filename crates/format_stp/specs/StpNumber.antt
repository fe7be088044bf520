-- A number that must be one of some (document 02, No. 5: an end from 1 to the node count, a terminal that was not named before, no more terminals than
-- nodes): it is refused at the first byte with which none of these can go on.
use Rattle.std.specs.Prelude.{ℕ, zero, suc, ◌+◌, ◌*◌, ◌-◌, ◌/◌, Bool, true, false, ◌&&◌, ◌||◌, cond, List, eqb, leb, get_or}
use Rattle.base_finite.specs.Below.{any_below}
use Rattle.format_write.specs.Key.{newline}
use Rattle.format_read.specs.Step.{Step, found}
use Rattle.format_read.specs.Number.{class_of, is_digit}
use Rattle.format_stp.specs.StpKey.{space}
use Rattle.format_stp.specs.StpWord.{by_byte}

-- From low to high, and of a junction that is in no group yet.
unfoldable pub is_free : (groups : List ℕ) (low high x : ℕ) → Bool
is_free groups low high x = leb low x && leb x high && eqb (get_or groups (x - 1) 0) 0

-- The digits of v are those of x and at most so many more.
unfoldable pub leads_to : (more x v : ℕ) → Bool
leads_to zero x v = eqb x v
leads_to (suc more) x v = eqb x v || leads_to more x (v / 10)

-- The number v is free, and begins with the digits of x.
unfoldable pub reaches : (free : ℕ → Bool) (more x v : ℕ) → Bool
reaches free more x v = free v && leads_to more x v

-- One of the numbers from 0 to high does.
unfoldable pub opens : (free : ℕ → Bool) (high more x : ℕ) → Bool
opens free high more x = reaches free more x 0 || any_below high (λ i. reaches free more x (i + 1))

-- The number with one more digit.
unfoldable pub with_digit : (x b : ℕ) → ℕ
with_digit x b = x * 10 + (b - 48)

-- A digit with which a free number can go on.
unfoldable pub goes_on : (free : ℕ → Bool) (high more x b : ℕ) → Bool
goes_on free high more x b = is_digit (class_of b) && opens free high more (with_digit x b)

-- The byte that ends a free number.
unfoldable pub ends_free : (free : ℕ → Bool) (stop x b : ℕ) → Bool
ends_free free stop x b = eqb b stop && free x

-- The rest of a number, after the digits of x.
unfoldable pub digits_after : (free : ℕ → Bool) (high stop more x : ℕ) → List ℕ → (at : ℕ) → Step ℕ
digits_after free high stop zero x = by_byte (ends_free free stop x) (λ b t at. found x at)
digits_after free high stop (suc more) x =
    by_byte (λ b. goes_on free high more x b || ends_free free stop x b)
    (λ b. cond (is_digit (class_of b)) (digits_after free high stop more (with_digit x b)) (λ t at. found x at))

-- After a leading 0 comes no digit.
unfoldable pub more_after : (limit b : ℕ) → ℕ
more_after limit b = cond (eqb b 48) 0 (limit - 1)

-- What ends a number: a space or the end of its line.
unfoldable pub stop_byte : (spaced : Bool) → ℕ
stop_byte true = space
stop_byte false = newline

-- A free number of at most limit digits, and the byte that ends it.
unfoldable pub free_to : (free : ℕ → Bool) (high stop limit : ℕ) → List ℕ → (at : ℕ) → Step ℕ
free_to free high stop limit =
    by_byte (λ b. goes_on free high (more_after limit b) 0 b) (λ b. digits_after free high stop (more_after limit b) (with_digit 0 b))
