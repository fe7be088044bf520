-- One survey of two with lent counts (document 02, No. 9): what the call answers and leaves in its buffers, by the library's own definitions.
use Rattle.std.specs.Prelude.{ℕ, List, [], ◌∷◌, length}
use Rattle.base_limits.specs.Verdict.{written}
use Rattle.base_limits.specs.declared.Verdict.{Verdict}
use Rattle.survey_core.specs.Survey.{Survey}
use Rattle.merge_rule.specs.Ties.{Ties}
use Rattle.merge_rule.specs.Merged.{merged}
use Rattle.merge_rule.specs.Refusal.{SurveyCounts, counts_of, Room, room_from, room_of, merge_refusal, over}
use Rattle.api_code.specs.Code.{lent_on, counts_after}

-- entries of the counts: n, m and the number of pairs
abbrev pub merge_figures : ℕ
merge_figures = 3

unfoldable pub merge_figures_of : SurveyCounts → List ℕ
merge_figures_of c = c.vertices ∷ c.edges ∷ c.pairs ∷ []

-- A buffer that is too short for the counts is judged as a group buffer of no length, so that 7 comes last (law `short_counts`).
unfoldable pub lent_room : Room → (counts : ℕ) → Room
lent_room room counts =
    room_from (lent_on counts merge_figures room.groups) room.firsts room.seconds room.weights room.owners room.others

unfoldable pub call_refusal : (a b : Survey) → Ties → Room → (counts : ℕ) → Verdict
call_refusal a b ties room counts = merge_refusal a b ties (lent_room room counts)

-- The six buffers, each a field: a refusal writes nothing.
unfoldable pub merge_out : (a b : Survey) → Ties → (out : Survey) → (counts : ℕ) → Survey
merge_out a b ties out counts = written (call_refusal a b ties (room_of out) counts) (over (merged a b ties) out) out

unfoldable pub merge_counts : (a b : Survey) → Ties → Room → (counts : List ℕ) → List ℕ
merge_counts a b ties room counts =
    counts_after (call_refusal a b ties room (length counts)) (merge_figures_of (counts_of (merged a b ties))) counts
