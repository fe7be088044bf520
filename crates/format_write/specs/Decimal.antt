-- Decimal digits of a number (document 01, 'Survey text and printed plan'): highest first, no leading zero unless the number is 0.
use Rattle.std.specs.Prelude.{ℕ, zero, suc, ◌+◌, ◌*◌, ◌-◌, ◌/◌, ◌%◌, cond, List, [], ◌∷◌, ◌++◌, ltb}
use Prim.Native.Char.{code}

abbrev pub digit : ℕ → ℕ
digit d = code "0" + d

-- The digits, of which there are at most one more than `fuel`.
unfoldable pub digits_within : ℕ → ℕ → List ℕ
digits_within zero x = digit x ∷ []
digits_within (suc fuel) x = let more = digits_within fuel (x / 10) ++ (digit (x % 10) ∷ []) in cond (ltb x 10) (digit x ∷ []) more

unfoldable pub decimal : ℕ → List ℕ
decimal x = digits_within x x

-- The number that digits spell, highest first: after a number already read, and from the start.
unfoldable pub spelled_after : ℕ → List ℕ → ℕ
spelled_after x [] = x
spelled_after x (d ∷ ds) = spelled_after (x * 10 + (d - digit 0)) ds

unfoldable pub spelled : List ℕ → ℕ
spelled ds = spelled_after 0 ds
