-- The slices in which a survey crosses from the handset (document 02, No. 1 and No. 2), and what their lengths alone are refused for.
use Rattle.std.specs.Prelude.{ℕ, ◌/◌, ◌%◌, ◌+◌, min, Bool, ◌&&◌, ◌||◌, not, List, length, eqb, ltb}
use Rattle.base_limits.specs.Limits.{max_vertices, max_edges, max_pairs}
use Rattle.base_limits.specs.Verdict.{refuse_if, ◌before◌}
use Rattle.base_limits.specs.declared.Verdict.{Verdict}
use Rattle.survey_core.specs.Survey.{Survey, survey_with}
use Rattle.api_handset.specs.Words.{word_bytes, words_in}

-- The six slices of a survey as they cross.
pub record Slices : Type 0 where
  pub groups : List ℕ
  pub firsts : List ℕ
  pub seconds : List ℕ
  pub weights : List ℕ
  pub owners : List ℕ
  pub others : List ℕ

-- What six lent slices held when the call began.
abbrev pub lent_slices : (groups firsts seconds weights owners others : List ℕ) → Slices
lent_slices groups firsts seconds weights owners others =
    record {
      groups = groups;
      firsts = firsts;
      seconds = seconds;
      weights = weights;
      owners = owners;
      others = others;
    }

-- The survey that they spell.
unfoldable pub survey_spelled : Slices → Survey
survey_spelled b = survey_with b.groups (words_in b.firsts) (words_in b.seconds) (words_in b.weights) (words_in b.owners) b.others

-- ---- lengths

-- 1, which comes first.
unfoldable pub size_refusal : ℕ → Verdict
size_refusal n = refuse_if (eqb n 0 || ltb max_vertices n) 1 0

-- A length that is not a multiple of four.
unfoldable pub is_ragged : ℕ → Bool
is_ragged long = not (eqb (long % word_bytes) 0)

-- Some slice of numbers is not a multiple of four long.
unfoldable pub any_ragged : (firsts seconds weights owners : ℕ) → Bool
any_ragged firsts seconds weights owners = is_ragged firsts || (is_ragged seconds || (is_ragged weights || is_ragged owners))

-- Slices that are read side by side spell different counts of numbers.
unfoldable pub are_uneven : (firsts seconds weights owners others : ℕ) → Bool
are_uneven firsts seconds weights owners others =
    not (eqb (firsts / word_bytes) (seconds / word_bytes) && eqb (firsts / word_bytes) (weights / word_bytes)) || not (eqb (owners / word_bytes) others)

-- What the six lengths alone are refused for: 1, 2, 3.
unfoldable pub lengths_refusal : (groups firsts seconds weights owners others : ℕ) → Verdict
lengths_refusal groups firsts seconds weights owners others =
    size_refusal groups
    before refuse_if (any_ragged firsts seconds weights owners) 2 0
    before refuse_if (are_uneven firsts seconds weights owners others) 2 0
    before refuse_if (ltb max_edges (firsts / word_bytes)) 3 0

-- A slice that is not a multiple of four long is 2, after 1 and before all else.
unfoldable pub ragged_refusal : Slices → Verdict
ragged_refusal b =
    size_refusal (length b.groups)
    before refuse_if (any_ragged (length b.firsts) (length b.seconds) (length b.weights) (length b.owners)) 2 0

-- So many pairs are looked at: one past the limit is refused, and with it all that follow.
unfoldable pub pairs_seen : ℕ → ℕ
pairs_seen pairs = min (max_pairs + 1) pairs
