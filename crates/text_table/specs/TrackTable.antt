-- The track table of the survey that a text says (document 02, No. 10, its second sentence): twelve bytes a track, in
-- the tracks' order.
use Rattle.std.specs.Prelude.{ℕ, ◌*◌, ◌/◌, ◌%◌, List, ◌++◌, length, get_or}
use Rattle.base_finite.specs.Below.{tabulate}
use Rattle.base_limits.specs.Limits.{max_edges}
use Rattle.base_limits.specs.Verdict.{Outcome, refusal, answer}
use Rattle.format_record.specs.Bits.{low_bytes}
use Rattle.format_print.specs.declared.Printed.{Printed}
use Rattle.format_print.specs.declared.Printed.TheVariants.{Refused as PrintRefused}
use Rattle.format_print.specs.Print.{printed, printed_out}
use Rattle.format_survey.specs.Reading.{SurveyText}
use Rattle.format_table.specs.Table.{track_bytes}
use Rattle.text_plan.specs.Output.{survey_read}

-- bytes of an end or a price
abbrev pub number_bytes : ℕ
number_bytes = 4

-- bytes that hold the table of every survey within the limits
abbrev pub table_room : ℕ
table_room = track_bytes * max_edges

-- A track: two ends and a price, four bytes each, lowest first.
unfoldable pub track_row : (first second weight : ℕ) → List ℕ
track_row first second weight = low_bytes number_bytes first ++ (low_bytes number_bytes second ++ low_bytes number_bytes weight)

-- Byte k of a table: byte k mod 12 of track k div 12.
unfoldable pub track_byte : (firsts seconds weights : List ℕ) → ℕ → ℕ
track_byte firsts seconds weights k =
    let i = k / track_bytes in
    get_or (track_row (get_or firsts i 0) (get_or seconds i 0) (get_or weights i 0)) (k % track_bytes) 0

-- One track after another.
unfoldable pub track_table : (firsts seconds weights : List ℕ) → List ℕ
track_table firsts seconds weights = tabulate (track_bytes * length firsts) (track_byte firsts seconds weights)

-- The table of what was read, or the refusal of reading.
unfoldable pub table_of : Outcome SurveyText → Outcome (List ℕ)
table_of (refusal number place) = refusal number place
table_of (answer s) = answer (track_table s.firsts s.seconds s.weights)

unfoldable pub text_table : List ℕ → Outcome (List ℕ)
text_table t = table_of (survey_read t)

-- What a call answers that writes the table: its length, or the refusal; 7 where the buffer is short.
unfoldable pub table_printed : Outcome (List ℕ) → (out : List ℕ) → Printed
table_printed (refusal number place) out = PrintRefused number place
table_printed (answer table) out = printed table out

-- What it leaves in the buffer: the table, and behind it what was there; a refusal writes nothing.
unfoldable pub table_printed_out : Outcome (List ℕ) → (out : List ℕ) → List ℕ
table_printed_out (refusal number place) out = out
table_printed_out (answer table) out = printed_out table out
