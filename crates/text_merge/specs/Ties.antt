-- The tie lines of a text (document 02, No. 9: 'given ties, each a junction of the first and the one of the second at the same place'): `tie=u,v`, numbers of at most
-- three digits, as many as a survey may have junctions, up to the end of the text.
use Rattle.std.specs.Prelude.{ℕ, ◌+◌, cond, List, length, leb}
use Rattle.base_limits.specs.Limits.{max_vertices, endpoint_digits}
use Rattle.format_write.specs.Key.{ascii, comma, newline}
use Rattle.format_read.specs.Step.{Step, found, refused, ◌then◌}
use Rattle.format_read.specs.Lines.{Lines}
use Rattle.format_read.specs.Bytes.{fixed_at}
use Rattle.format_read.specs.Items.{ItemReader, items_from}
use Rattle.format_read.specs.Number.{number_to}
use Rattle.format_also.specs.Pair.{Pair, pair_of}

abbrev pub tie_key : List ℕ
tie_key = ascii "tie="

-- tie lines of a text, at most: no junction of the first is tied twice
abbrev pub max_ties : ℕ
max_ties = max_vertices

-- A tie is a pair: a junction of the first (owner) and one of the second (other).
unfoldable pub tie_at : List ℕ → (at : ℕ) → Step Pair
tie_at t at =
    fixed_at tie_key t at then λ z a.
    number_to endpoint_digits comma t a then λ u b.
    number_to endpoint_digits newline t b then λ v c.
    found (pair_of u v) c

-- Line i of its kind; past the last that may be, no such line stands in a text.
unfoldable pub tie_line : List ℕ → (i at : ℕ) → Step Pair
tie_line t i at = cond (leb max_ties i) (refused 16 at) (tie_at t at)

-- Tie lines stand up to the end of the text.
unfoldable pub tie_reader : List ℕ → ItemReader ℕ Pair
tie_reader t = record { stop = λ at. leb (length t) at; item = λ low i at. tie_line t i at; after = λ low x. low }

abbrev pub tie_turns : ℕ
tie_turns = max_ties + 1

unfoldable pub tie_lines : List ℕ → Lines ℕ Pair
tie_lines t = items_from (tie_reader t) tie_turns 0 0 0
