-- The printed rows of closed tracks (document 02, No. 12): one line a track, its number and the plan's cost and bound, or the word refused with number and place.
use Rattle.std.specs.Prelude.{ℕ, ◌+◌, ◌*◌, cond, List, ◌++◌, length, get_or, eqb}
use Rattle.format_write.specs.Key.{ascii, comma, newline}
use Rattle.format_write.specs.Text.{text_below}
use Rattle.format_read.specs.Number.{number_text}

unfoldable pub closed_key : List ℕ
closed_key = ascii "closed="

unfoldable pub refused_word : List ℕ
refused_word = ascii "refused,"

-- Two numbers that end a line.
unfoldable pub pair_text : (x y : ℕ) → List ℕ
pair_text x y = number_text comma x ++ number_text newline y

-- The line of a track, by the four numbers of its row.
unfoldable pub row_text : (track number place cost bound : ℕ) → List ℕ
row_text track number place cost bound =
    closed_key ++ number_text comma track ++ cond (eqb number 0) (pair_text cost bound) (refused_word ++ pair_text number place)

-- The line of the i-th track, by the i-th row of a result.
unfoldable pub row_line : (tracks result : List ℕ) → ℕ → List ℕ
row_line tracks result i =
    row_text (get_or tracks i 0) (get_or result (4 * i) 0) (get_or result (4 * i + 1) 0) (get_or result (4 * i + 2) 0) (get_or result (4 * i + 3) 0)

unfoldable pub row_lines : (tracks result : List ℕ) → List ℕ
row_lines tracks result = text_below (length tracks) (row_line tracks result)
