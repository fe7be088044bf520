-- Numbers as they cross from the handset and counts as they come back (document 02, No. 1): four bytes and eight bytes each, lowest first.
use Rattle.std.specs.Prelude.{ℕ, ◌*◌, ◌/◌, cond, List, [], ◌∷◌, ◌++◌, length, take, drop, ltb}
use Rattle.std.proofs.lemmas.List.Edits.{sets}
use Rattle.base_finite.specs.Below.{tabulate}
use Rattle.format_record.specs.Bits.{number_of, low_bytes}

-- bytes of a number, and of a count
abbrev pub word_bytes : ℕ
word_bytes = 4

abbrev pub figure_bytes : ℕ
figure_bytes = 8

-- Number i of a slice; bytes past the end count as 0.
unfoldable pub word_at : List ℕ → ℕ → ℕ
word_at bytes i = number_of (take word_bytes (drop (word_bytes * i) bytes))

-- The whole numbers of a slice.
unfoldable pub words_in : List ℕ → List ℕ
words_in bytes = tabulate (length bytes / word_bytes) (word_at bytes)

-- Counts one after the other.
unfoldable pub spelled_counts : List ℕ → List ℕ
spelled_counts [] = []
spelled_counts (x ∷ xs) = low_bytes figure_bytes x ++ spelled_counts xs

-- A slice that holds so many counts, with them at its beginning; a shorter one as it was.
unfoldable pub with_spelled : (result counts : List ℕ) → List ℕ
with_spelled result counts = cond (ltb (length result / figure_bytes) (length counts)) result (sets result 0 (spelled_counts counts))
