-- What a writer does: its text stands in the buffer from a place on, as far as there is room, and the next place is behind it.
-- Places stop at `farthest`, which is past the length of every buffer, so that a writer on an empty buffer measures its text.
use Rattle.std.specs.Prelude.{ℕ, ◌+◌, ◌/◌, ◌%◌, ◌^◌, min, max, ◌≡◌, Bool, true, false, ◌&&◌, cond, List, [], ◌∷◌, ◌++◌, length, get_or, eqb}
use Rattle.std.proofs.lemmas.List.Edits.{sets}
use Rattle.base_limits.specs.Limits.{value_bytes}
use Rattle.format_write.specs.Key.{comma}
use Rattle.format_write.specs.Decimal.{decimal}

abbrev pub farthest : ℕ
farthest = 2 ^ 63

pub record Wrote (old : List ℕ) (at : ℕ) (text new : List ℕ) (next : ℕ) : Type 0 where
  pub place : next ≡ max at (min (at + length text) farthest)
  pub bytes : new ≡ sets old at text

unfoldable pub is_none : List ℕ → Bool
is_none [] = true
is_none (x ∷ xs) = false

-- A number of a list, with the comma before it unless it is the first.
unfoldable pub item_of : (first : Bool) → ℕ → List ℕ
item_of first v = cond first (decimal v) ((comma ∷ []) ++ decimal v)

-- The same for a number that is listed only where the test holds.
unfoldable pub member_text : (first here : Bool) → ℕ → List ℕ
member_text first here v = cond here (item_of first v) []

-- v is the first number of a byte of members, and that byte is 0.
unfoldable pub begins_zero : (part : List ℕ) (v : ℕ) → Bool
begins_zero part v = eqb (v % 8) 0 && eqb (get_or part (value_bytes + v / 8) 0) 0
