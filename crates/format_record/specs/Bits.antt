-- Numbers as bytes, lowest byte first, and sets as bits, for any number of bytes (document 01, 'What a plan holds').
use Rattle.std.specs.Prelude.{ℕ, zero, suc, ◌+◌, ◌*◌, ◌/◌, ◌%◌, ◌^◌, ◌<◌, Bool, cond, List, [], ◌∷◌, get_or, set, eqb}
use Rattle.base_finite.specs.Below.{counted, sum_below, tabulate}

-- The list is one of bytes.
abbrev pub Bytes : List ℕ → Type 0
Bytes bytes = (i : ℕ) → get_or bytes i 0 < 256

-- Bit k of a byte, the lowest being bit 0.
unfoldable pub bit_at : ℕ → ℕ → Bool
bit_at b k = eqb (b / 2 ^ k % 2) 1

-- The byte with bit k set.
unfoldable pub with_bit : ℕ → ℕ → ℕ
with_bit b k = cond (bit_at b k) b (b + 2 ^ k)

-- The byte whose bit k is set where the test holds of k.
unfoldable pub byte_of : (ℕ → Bool) → ℕ
byte_of t = sum_below 8 (λ k. counted (t k) (2 ^ k))

-- The members among the first 8 * count vertices: v at bit v mod 8 of byte v div 8.
unfoldable pub bytes_of : ℕ → (ℕ → Bool) → List ℕ
bytes_of count S = tabulate count (λ j. byte_of (λ k. S (8 * j + k)))

unfoldable pub member_at : List ℕ → ℕ → Bool
member_at bytes v = bit_at (get_or bytes (v / 8) 0) (v % 8)

-- The bytes with member v added.
unfoldable pub with_member : List ℕ → ℕ → List ℕ
with_member bytes v = set bytes (v / 8) (with_bit (get_or bytes (v / 8) 0) (v % 8))

-- The lowest `count` bytes of a number, lowest first.
unfoldable pub low_bytes : ℕ → ℕ → List ℕ
low_bytes zero x = []
low_bytes (suc count) x = x % 256 ∷ low_bytes count (x / 256)

-- The number that bytes spell, lowest first.
unfoldable pub number_of : List ℕ → ℕ
number_of [] = 0
number_of (b ∷ bs) = b + 256 * number_of bs
