-- The printed lines (document 01, 'Survey text and printed plan').
use Rattle.std.specs.Prelude.{ℕ, zero, suc, ◌*◌, ◌/◌, cond, List, [], ◌∷◌, ◌++◌, length, get_or, eqb}
use Rattle.base_finite.specs.Below.{those_below}
use Rattle.base_limits.specs.Limits.{member_bytes, record_bytes}
use Rattle.format_record.specs.Record.{value_in, member_in, record_at}
use Rattle.format_write.specs.Key.{terminals_key, cost_key, bound_key, rounds_key, kept_key, dual_key, refused_key, place_key, colon, comma, newline}
use Rattle.format_write.specs.Decimal.{decimal}

-- A line key=number.
unfoldable pub line_of : List ℕ → ℕ → List ℕ
line_of key x = key ++ decimal x ++ (newline ∷ [])

-- Numbers with commas between.
unfoldable pub listed : List ℕ → List ℕ
listed [] = []
listed (v ∷ []) = decimal v
listed (v ∷ w ∷ more) = decimal v ++ (comma ∷ []) ++ listed (w ∷ more)

-- The members of a record, rising.
unfoldable pub members_of : List ℕ → List ℕ
members_of r = those_below (8 * member_bytes) (member_in r)

-- A moat line: the amount, and the members after the colon.
unfoldable pub dual_line : List ℕ → List ℕ
dual_line r = dual_key ++ decimal (value_in r) ++ (colon ∷ []) ++ listed (members_of r) ++ (newline ∷ [])

-- The texts for 0, 1, .. below n, one after another.
unfoldable pub text_below : ℕ → (ℕ → List ℕ) → List ℕ
text_below zero f = []
text_below (suc n) f = text_below n f ++ f n

-- What stands for track e with this mark: a line where it is kept.
unfoldable pub kept_line : ℕ → ℕ → List ℕ
kept_line mark e = cond (eqb mark 2) (line_of kept_key e) []

unfoldable pub kept_lines : List ℕ → List ℕ
kept_lines marks = text_below (length marks) (λ e. kept_line (get_or marks e 0) e)

-- A line for each whole record, in the order of the buffer.
unfoldable pub dual_lines : List ℕ → List ℕ
dual_lines records = text_below (length records / record_bytes) (λ i. dual_line (record_at records i))

unfoldable pub count_lines : (terminals cost bound rounds : ℕ) → List ℕ
count_lines terminals cost bound rounds =
    line_of terminals_key terminals ++ line_of cost_key cost ++ line_of bound_key bound ++ line_of rounds_key rounds

-- The whole plan: the counts, the kept tracks, the moats.
unfoldable pub plan_text : (terminals cost bound rounds : ℕ) (marks records : List ℕ) → List ℕ
plan_text terminals cost bound rounds marks records = count_lines terminals cost bound rounds ++ kept_lines marks ++ dual_lines records

-- A refusal's two lines.
unfoldable pub refusal_text : (number place : ℕ) → List ℕ
refusal_text number place = line_of refused_key number ++ line_of place_key place
