-- The handset's calls beside the library's (document 02, No. 1, 'with the library's answers'), and what a call that
-- answered 0 has left. Laws/Handset proves it.
use Rattle.std.specs.Prelude.{ℕ, ◌*◌, ◌%◌, ◌≤◌, ◌≡◌, List, length, take, drop}
use Rattle.base_limits.specs.Limits.{record_bytes}
use Rattle.base_limits.specs.Verdict.{refusal, answer}
use Rattle.survey_core.specs.Survey.{edge_count}
use Rattle.survey_core.specs.Accuracy.{Accurate, DualBound}
use Rattle.check_rule.specs.Check.{Checked, check_refusal, checking}
use Rattle.check_rule.specs.Passing.{Passing}
use Rattle.plan_rule.specs.Plan.{PlanCounts, plan_refusal, counting, marks_after, records_after}
use Rattle.plan_rule.specs.Promise.{FinishedPlan}
use Rattle.api_code.specs.Code.{code_of}
use Rattle.api_handset.specs.Words.{word_bytes}
use Rattle.api_handset.specs.Slices.{Slices, survey_spelled}
use Rattle.api_handset.specs.Call.{plan_bytes, check_bytes, handset_check, handset_check_result, handset_plan, handset_marks, handset_records, handset_plan_result}
use Rattle.theorems.specs.Calls.{figure_in, planned_spelled, checked_spelled}

-- ---- the library's answers

-- Numbers of four bytes each, with none left over.
pub record Whole (b : Slices) : Type 0 where
  pub firsts_whole : length b.firsts % word_bytes ≡ 0
  pub seconds_whole : length b.seconds % word_bytes ≡ 0
  pub weights_whole : length b.weights % word_bytes ≡ 0
  pub owners_whole : length b.owners % word_bytes ≡ 0

-- Planning what the slices spell: the library's verdict, marks, records and counts.
pub record LibraryPlans (b : Slices) (marks records result : List ℕ) : Type 0 where
  pub verdict : handset_plan b marks records result ≡ plan_refusal (survey_spelled b) (length marks) (length records)
  pub marks_are : handset_marks b marks records result ≡ marks_after (survey_spelled b) marks records
  pub records_are : handset_records b marks records result ≡ records_after (survey_spelled b) marks records
  -- each count that eight bytes spell, and behind them what was there; a refusal leaves all of it
  pub counts_are : (c : PlanCounts) → counting (survey_spelled b) (length marks) (length records) ≡ answer c
      → planned_spelled (handset_plan_result b marks records result) ≡ c
  pub behind : (c : PlanCounts) → counting (survey_spelled b) (length marks) (length records) ≡ answer c
      → drop plan_bytes (handset_plan_result b marks records result) ≡ drop plan_bytes result
  pub kept : (number place : ℕ) → counting (survey_spelled b) (length marks) (length records) ≡ refusal number place
      → handset_plan_result b marks records result ≡ result

-- Checking, likewise.
pub record LibraryChecks (b : Slices) (marks records result : List ℕ) : Type 0 where
  pub verdict : handset_check b marks records result ≡ check_refusal (survey_spelled b) marks records
  pub counts_are : (c : Checked) → checking (survey_spelled b) marks records ≡ answer c → checked_spelled (handset_check_result b marks records result) ≡ c
  pub behind : (c : Checked) → checking (survey_spelled b) marks records ≡ answer c
      → drop check_bytes (handset_check_result b marks records result) ≡ drop check_bytes result
  pub kept : (number place : ℕ) → checking (survey_spelled b) marks records ≡ refusal number place → handset_check_result b marks records result ≡ result

-- ---- a call that answered 0

-- A plan that stands in three buffers, of which two held these marks and records before.
pub record HandsetPlanStands (b : Slices) (before_marks before_records marks records result : List ℕ) : Type 0 where
  pub finished : FinishedPlan (survey_spelled b) before_marks before_records (planned_spelled result)
  -- demand 3
  pub accurate : Accurate (survey_spelled b) (figure_in result 0) (figure_in result 1)
  pub bounded : DualBound (survey_spelled b) (figure_in result 2)
  -- the marks cut to m and the records to as many as there are moats pass the handset's checking call,
  -- with the same k, cost and bound
  pub passes : (lent : List ℕ) → check_bytes ≤ length lent
      → code_of (handset_check b (take (edge_count (survey_spelled b)) marks) (take (record_bytes * figure_in result 4) records) lent) ≡ 0
  pub same : (lent : List ℕ) → check_bytes ≤ length lent
      → checked_spelled (handset_check_result b (take (edge_count (survey_spelled b)) marks) (take (record_bytes * figure_in result 4) records) lent) ≡ checked_spelled result

-- Marks and records that passed, with the counts that were stored.
pub record HandsetCheckStands (b : Slices) (marks records result : List ℕ) : Type 0 where
  pub passing : Passing (survey_spelled b) marks records
  pub accurate : Accurate (survey_spelled b) (figure_in result 0) (figure_in result 1)
  pub bounded : DualBound (survey_spelled b) (figure_in result 2)
