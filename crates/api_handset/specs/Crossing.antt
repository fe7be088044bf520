-- How a survey crosses from the handset (document 02, No. 1 and No. 2): ends, prices and the pairs' v as four bytes each, lowest first. Read back by `survey_back`.
use Rattle.std.specs.Prelude.{ℕ, ◌<◌, ◌^◌, List, [], ◌∷◌, ◌++◌, get_or}
use Rattle.format_record.specs.Bits.{low_bytes}
use Rattle.survey_core.specs.Survey.{Survey}
use Rattle.api_handset.specs.Words.{word_bytes}
use Rattle.api_handset.specs.Slices.{Slices}

-- Numbers one after the other.
unfoldable pub in_bytes : List ℕ → List ℕ
in_bytes [] = []
in_bytes (x ∷ xs) = low_bytes word_bytes x ++ in_bytes xs

-- They fit four bytes.
abbrev pub Fit : List ℕ → Type 0
Fit l = (i : ℕ) → get_or l i 0 < 256 ^ word_bytes

-- The six slices in which a survey crosses.
unfoldable pub crossing_of : Survey → Slices
crossing_of s =
    record {
      groups = s.groups;
      firsts = in_bytes s.firsts;
      seconds = in_bytes s.seconds;
      weights = in_bytes s.weights;
      owners = in_bytes s.owners;
      others = s.others;
    }
