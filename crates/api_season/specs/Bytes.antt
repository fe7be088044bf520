-- The report as a lent slice of bytes (document 02, No. 11): numbers of eight bytes, lowest first. All bytes 0 are the
-- empty report, and any bytes are a report.
use Rattle.std.specs.Prelude.{ℕ, ◌+◌, ◌*◌, ◌<◌, cond, List, [], ◌∷◌, ◌++◌, take, drop, ltb}
use Rattle.base_finite.specs.Below.{tabulate}
use Rattle.format_record.specs.Bits.{number_of}
use Rattle.season_rule.specs.declared.Farthest.{Farthest}
use Rattle.season_rule.specs.declared.Farthest.TheVariants.{Nothing, At}
use Rattle.season_rule.specs.declared.Report.{Report}
use Rattle.season_rule.specs.Report.{refusal_numbers, word_limit}
use Rattle.season_rule.specs.Text.{Words}
use Rattle.api_handset.specs.Words.{figure_bytes, spelled_counts}

-- numbers of a report: surveys, planned, cost and bound; refusals by number; position, twice the cost and bound of the
-- farthest plan
abbrev pub head_figures : ℕ
head_figures = 4

abbrev pub far_figures : ℕ
far_figures = 3

abbrev pub report_figures : ℕ
report_figures = head_figures + refusal_numbers + far_figures

abbrev pub report_bytes : ℕ
report_bytes = figure_bytes * report_figures

-- Number i of a slice; bytes past the end count as 0.
unfoldable pub figure_at : List ℕ → ℕ → ℕ
figure_at bytes i = number_of (take figure_bytes (drop (figure_bytes * i) bytes))

-- A bound of 0 stands for none: such a plan takes no part.
unfoldable pub far_in : (position twice bound : ℕ) → Farthest
far_in position twice bound = cond (ltb 0 bound) (At position twice bound) Nothing

unfoldable pub report_in : List ℕ → Report
report_in bytes =
    record {
      surveys = figure_at bytes 0;
      planned = figure_at bytes 1;
      cost = figure_at bytes 2;
      bound = figure_at bytes 3;
      refused = tabulate refusal_numbers (λ k. figure_at bytes (head_figures + k));
      farthest = far_in (figure_at bytes 23) (figure_at bytes 24) (figure_at bytes 25);
    }

unfoldable pub far_numbers : Farthest → List ℕ
far_numbers Nothing = 0 ∷ 0 ∷ 0 ∷ []
far_numbers (At position twice bound) = position ∷ twice ∷ bound ∷ []

unfoldable pub report_numbers : Report → List ℕ
report_numbers r = (r.surveys ∷ r.planned ∷ r.cost ∷ r.bound ∷ []) ++ (r.refused ++ far_numbers r.farthest)

-- A slice with this report at its beginning; what stands behind it stays.
unfoldable pub with_report : List ℕ → Report → List ℕ
with_report bytes r = spelled_counts (report_numbers r) ++ drop report_bytes bytes

-- ---- reports that come back as they were written (law `report_back`), as those of calls from all bytes 0 do

pub data FarSome : Farthest → Type 0 where
  nothing : FarSome Nothing
  some : {position twice bound : ℕ} → 0 < bound → FarSome (At position twice bound)

pub record Storable (r : Report) : Type 0 where
  pub surveys_word : r.surveys < word_limit
  pub words : Words r
  pub far_some : FarSome r.farthest
