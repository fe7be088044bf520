-- Track tables for the memory card (document 02, No. 10): bytes of equal rank lie together.
use Rattle.std.specs.Prelude.{ℕ, ◌+◌, ◌*◌, ◌/◌, ◌%◌, List, ◌++◌, length, get_or, drop, ltb}
use Rattle.base_finite.specs.Below.{tabulate}
use Rattle.base_limits.specs.Verdict.{refuse_if, ◌before◌, written}
use Rattle.base_limits.specs.declared.Verdict.{Verdict}

-- bytes of a track: two ends and a price, four each, lowest first
abbrev pub track_bytes : ℕ
track_bytes = 12

-- A table of so many rows and columns, read column by column: byte j of row i goes to j * rows + i (law `turned_at_law`).
-- With rows and columns exchanged it is the inverse (law `turned_twice`).
unfoldable pub turned : (rows columns : ℕ) → List ℕ → List ℕ
turned rows columns t = tabulate (rows * columns) (λ k. get_or t (k % rows * columns + k / rows) 0)

-- The tracks of a table that has no part of one.
abbrev pub tracks_in : List ℕ → ℕ
tracks_in t = length t / track_bytes

-- No. 10, its third sentence: the first bytes of all tracks, then all second bytes, and so on.
unfoldable pub packed : List ℕ → List ℕ
packed t = turned (tracks_in t) track_bytes t

-- No. 10, the inverse: the tracks again.
unfoldable pub unpacked : List ℕ → List ℕ
unpacked t = turned track_bytes (tracks_in t) t

-- No. 10, 'Answers': 23, then 7. The lengths are those of the table and of the result buffer.
unfoldable pub table_refusal : (long room : ℕ) → Verdict
table_refusal long room = refuse_if (ltb 0 (long % track_bytes)) 23 0 before refuse_if (ltb room long) 7 0

-- The result buffer at the end: bytes past the table's length keep their values.
unfoldable pub packed_out : (table out : List ℕ) → List ℕ
packed_out table out = written (table_refusal (length table) (length out)) (packed table ++ drop (length table) out) out

unfoldable pub unpacked_out : (table out : List ℕ) → List ℕ
unpacked_out table out = written (table_refusal (length table) (length out)) (unpacked table ++ drop (length table) out) out
