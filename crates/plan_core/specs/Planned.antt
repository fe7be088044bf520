-- Growing and dropping over poured lists of a survey that 1 to 6 do not refuse (document 01, 'How moats grow'): what the growth leaves to draw moats from, and the
-- marks, which are written only where all tracks together join every group.
use Rattle.std.specs.Prelude.{ℕ, ◌*◌, ◌≤◌, ◌≡◌, Bool, cond, ◌||◌, List, ◌++◌, length, drop, ltb}
use Rattle.base_limits.specs.Limits.{record_bytes, duals_for}
use Rattle.base_limits.specs.Verdict.{refuse_if, ◌before◌, Outcome, refusal, answer}
use Rattle.base_limits.specs.declared.Verdict.{Verdict}
use Rattle.theory_steiner.specs.Problem.{joined, all_usable}
use Rattle.survey_core.specs.Survey.{Survey, vertex_count, edge_count, problem_of}
use Rattle.survey_core.specs.Sound.{SurveySound}
use Rattle.survey_core.specs.Refusal.{survey_refusal}
use Rattle.plan_rounds.specs.Grown.{growth_from, GrownAfter}
use Rattle.plan_draw.specs.Drawing.{records_over}
use Rattle.plan_rule.specs.Plan.{PlanCounts, plan_of, plan_counts_of}
use Rattle.plan_rule.specs.Figures.{FigureCounts, figure_counts_of}

-- Whether all tracks together join every group.
abbrev pub joinable : Survey → Bool
joinable s = joined (problem_of s) (all_usable (problem_of s))

-- What a buffer of at least m marks holds then.
unfoldable pub marks_joined : Survey → (marks : List ℕ) → List ℕ
marks_joined s marks = cond (joinable s) ((plan_of (problem_of s)).marks ++ drop (length s.firsts) marks) marks

-- From a buffer that held these marks to the growth's figures and arrays and what the buffer holds then.
pub record MarkedInto (s : Survey) (marks : List ℕ) (rounds bound : ℕ) (joins : Bool) (values order marked : List ℕ) : Type 0 where
  pub picked : List ℕ
  pub grew : GrownAfter (problem_of s) (length s.groups) (growth_from rounds bound values picked order)
  pub joins_is : joins ≡ joinable s
  pub marks_are : marked ≡ marks_joined s marks

-- The plan's figures where the groups can be joined. 8 is said of the lists, and not of the groups that they are poured into.
unfoldable pub figures_joined : Survey → Outcome FigureCounts
figures_joined s = cond (joinable s) (answer (figure_counts_of (plan_of (problem_of s)))) (refusal 8 0)

-- ---- with moats

-- 1 to 6 and 18, then 7: planning's refusals before 8.
unfoldable pub lent_refusal : Survey → (marks_length records_length : ℕ) → Verdict
lent_refusal s marks_length records_length =
    survey_refusal s
    before refuse_if (ltb marks_length (edge_count s) || ltb records_length (record_bytes * duals_for (vertex_count s))) 7 0

-- None of them applies.
pub record Fits (s : Survey) (marks_length records_length : ℕ) : Type 0 where
  pub survey : SurveySound s
  pub marks_fit : edge_count s ≤ marks_length
  pub records_fit : record_bytes * duals_for (vertex_count s) ≤ records_length

-- The plan's counts, and what a buffer for records holds.
unfoldable pub counts_joined : Survey → Outcome PlanCounts
counts_joined s = cond (joinable s) (answer (plan_counts_of (plan_of (problem_of s)))) (refusal 8 0)

unfoldable pub records_joined : Survey → (records : List ℕ) → List ℕ
records_joined s records = cond (joinable s) (records_over (plan_of (problem_of s)).duals records) records
