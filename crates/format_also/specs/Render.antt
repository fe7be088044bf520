-- The text of an also line, and of all (document 02, No. 2).
use Rattle.std.specs.Prelude.{ℕ, ◌+◌, ◌*◌, List, ◌++◌, length, get_or}
use Rattle.base_finite.specs.Below.{tabulate}
use Rattle.base_limits.specs.Limits.{also_digits}
use Rattle.format_write.specs.Key.{comma, newline, also_key}
use Rattle.format_read.specs.Number.{number_text}
use Rattle.format_read.specs.Lines.{text_of}
use Rattle.format_also.specs.Pair.{Pair, pair_of}

unfoldable pub pair_text : Pair → List ℕ
pair_text x = also_key ++ number_text comma x.owner ++ number_text newline x.other

unfoldable pub pairs_text : List Pair → List ℕ
pairs_text pairs = text_of pair_text pairs

-- The pair at i of two buffers, and their pairs: as many as owners.
abbrev pub pair_in : (owners others : List ℕ) → ℕ → Pair
pair_in owners others i = pair_of (get_or owners i 0) (get_or others i 0)

unfoldable pub pairs_from : (owners others : List ℕ) → List Pair
pairs_from owners others = tabulate (length owners) (pair_in owners others)

-- The bytes that an also line can take.
abbrev pub pair_bytes : ℕ
pair_bytes = length also_key + 2 * (also_digits + 1)
