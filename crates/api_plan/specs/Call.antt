-- Planning with lent counts: what the call answers and leaves in its buffers, by the library's own definitions.
use Rattle.std.specs.Prelude.{ℕ, List, [], ◌∷◌, length}
use Rattle.base_limits.specs.Verdict.{written}
use Rattle.base_limits.specs.declared.Verdict.{Verdict}
use Rattle.survey_core.specs.Survey.{Survey, problem_of}
use Rattle.plan_rule.specs.Plan.{PlanCounts, plan_refusal, plan_of, plan_counts_of, marks_after, records_after}
use Rattle.api_code.specs.Code.{with_counts, counts_after}

-- entries of the counts of planning: k, cost, bound, rounds and the number of moats
abbrev pub plan_figures : ℕ
plan_figures = 5

unfoldable pub plan_figures_of : PlanCounts → List ℕ
plan_figures_of c = c.terminals ∷ c.cost ∷ c.bound ∷ c.rounds ∷ c.duals ∷ []

-- 1 to 6, 18, then 7 for any buffer that is too short, then 8.
unfoldable pub plan_call : Survey → (marks records counts : List ℕ) → Verdict
plan_call s marks records counts = with_counts s plan_figures (length counts) (plan_refusal s (length marks) (length records))

unfoldable pub drawn_figures : Survey → List ℕ
drawn_figures s = plan_figures_of (plan_counts_of (plan_of (problem_of s)))

-- The three lent buffers at the end: marks and records are those that planning leaves, where the counts fit too.
unfoldable pub plan_marks : Survey → (marks records counts : List ℕ) → List ℕ
plan_marks s marks records counts = written (plan_call s marks records counts) (marks_after s marks records) marks

unfoldable pub plan_records : Survey → (marks records counts : List ℕ) → List ℕ
plan_records s marks records counts = written (plan_call s marks records counts) (records_after s marks records) records

unfoldable pub plan_counts : Survey → (marks records counts : List ℕ) → List ℕ
plan_counts s marks records counts = counts_after (plan_call s marks records counts) (drawn_figures s) counts
