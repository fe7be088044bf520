-- Planning and checking from the handset (document 02, No. 1 and No. 2): the library's definitions on the numbers that the bytes spell.
use Rattle.std.specs.Prelude.{ℕ, ◌*◌, List, length}
use Rattle.std.proofs.lemmas.List.Edits.{sets}
use Rattle.base_limits.specs.Verdict.{◌before◌, written}
use Rattle.base_limits.specs.declared.Verdict.{Verdict}
use Rattle.survey_core.specs.Survey.{Survey}
use Rattle.check_rule.specs.Check.{check_refusal, checked_of}
use Rattle.plan_rule.specs.Plan.{plan_refusal, marks_after, records_after}
use Rattle.api_code.specs.Code.{with_counts}
use Rattle.api_plan.specs.Call.{plan_figures, drawn_figures}
use Rattle.api_check.specs.Call.{check_figures, check_figures_of}
use Rattle.api_handset.specs.Words.{figure_bytes, spelled_counts}
use Rattle.api_handset.specs.Slices.{Slices, survey_spelled, ragged_refusal}

-- bytes of the counts of planning and of checking
abbrev pub plan_bytes : ℕ
plan_bytes = plan_figures * figure_bytes

abbrev pub check_bytes : ℕ
check_bytes = check_figures * figure_bytes

-- What the lent result holds at the end: the counts in document 01's order, and behind them what was there; a refusal writes nothing.
unfoldable pub result_after : Verdict → (figures result : List ℕ) → List ℕ
result_after v figures result = written v (sets result 0 (spelled_counts figures)) result

-- ---- checking

-- A survey in numbers: 1 to 6, 18, then 7 for a short result, then 9 to 15.
unfoldable pub check_with : Survey → (marks records result : List ℕ) → Verdict
check_with s marks records result = with_counts s check_bytes (length result) (check_refusal s marks records)

unfoldable pub handset_check : Slices → (marks records result : List ℕ) → Verdict
handset_check b marks records result = ragged_refusal b before check_with (survey_spelled b) marks records result

unfoldable pub handset_check_result : Slices → (marks records result : List ℕ) → List ℕ
handset_check_result b marks records result =
    result_after (handset_check b marks records result) (check_figures_of (checked_of (survey_spelled b) marks records)) result

-- ---- planning

-- A survey in numbers: 1 to 6, 18, then 7 for any buffer that is too short, then 8.
unfoldable pub plan_with : Survey → (marks records result : List ℕ) → Verdict
plan_with s marks records result = with_counts s plan_bytes (length result) (plan_refusal s (length marks) (length records))

unfoldable pub handset_plan : Slices → (marks records result : List ℕ) → Verdict
handset_plan b marks records result = ragged_refusal b before plan_with (survey_spelled b) marks records result

unfoldable pub handset_marks : Slices → (marks records result : List ℕ) → List ℕ
handset_marks b marks records result = written (handset_plan b marks records result) (marks_after (survey_spelled b) marks records) marks

unfoldable pub handset_records : Slices → (marks records result : List ℕ) → List ℕ
handset_records b marks records result = written (handset_plan b marks records result) (records_after (survey_spelled b) marks records) records

unfoldable pub handset_plan_result : Slices → (marks records result : List ℕ) → List ℕ
handset_plan_result b marks records result = result_after (handset_plan b marks records result) (drawn_figures (survey_spelled b)) result
