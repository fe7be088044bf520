-- The season's calls with a report of bytes: what they answer and leave in their buffers (document 02, No. 11). A slice
-- that is too short for a report is 7.
use Rattle.std.specs.Prelude.{ℕ, List, [], ◌∷◌, length, ltb}
use Rattle.base_limits.specs.Verdict.{refuse_if, ◌before◌, written}
use Rattle.base_limits.specs.declared.Verdict.{Verdict}
use Rattle.survey_core.specs.Survey.{Survey}
use Rattle.season_rule.specs.Figures.{figures}
use Rattle.season_rule.specs.Report.{season_refusal, add_survey}
use Rattle.season_rule.specs.Text.{report_text}
use Rattle.format_print.specs.Print.{out_after}
use Rattle.api_code.specs.Code.{counts_after}
use Rattle.api_print.specs.Call.{text_call}
use Rattle.api_season.specs.Bytes.{report_bytes, report_in, with_report}

-- The slice holds a report.
unfoldable pub report_refusal : (report : List ℕ) → Verdict
report_refusal report = refuse_if (ltb (length report) report_bytes) 7 0

-- Adding a survey: 7, then the season's 3. The survey's own refusal is counted, and no refusal of the call.
unfoldable pub season_call : (report : List ℕ) → Survey → Verdict
season_call report s = report_refusal report before season_refusal (report_in report) (figures s)

-- The slice after the call; a refusal writes nothing.
unfoldable pub season_bytes : (report : List ℕ) → Survey → List ℕ
season_bytes report s = written (season_call report s) (with_report report (add_survey (report_in report) s)) report

-- The slice after one call for each survey, one after another.
unfoldable pub season_calls : (report : List ℕ) → List Survey → List ℕ
season_calls report [] = report
season_calls report (s ∷ ss) = season_calls (season_bytes report s) ss

-- Printing: 7 for the report, then for the text and its length.
unfoldable pub print_call : (report out counts : List ℕ) → Verdict
print_call report out counts = report_refusal report before text_call (report_text (report_in report)) out counts

unfoldable pub print_out : (report out counts : List ℕ) → List ℕ
print_out report out counts = out_after (print_call report out counts) (report_text (report_in report)) out

unfoldable pub print_counts : (report out counts : List ℕ) → List ℕ
print_counts report out counts = counts_after (print_call report out counts) (length (report_text (report_in report)) ∷ []) counts
