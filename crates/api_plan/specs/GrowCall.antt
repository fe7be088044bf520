-- Growing and dropping with lent counts (document 02, No. 7): what the calls answer and leave in their buffers, by the library's own definitions.
use Rattle.std.specs.Prelude.{ℕ, List, [], ◌∷◌, length}
use Rattle.base_limits.specs.Verdict.{written}
use Rattle.base_limits.specs.declared.Verdict.{Verdict}
use Rattle.survey_core.specs.Survey.{Survey, problem_of}
use Rattle.plan_rule.specs.Plan.{plan_of}
use Rattle.plan_rule.specs.Growing.{grown_counts_of, marks_grown}
use Rattle.plan_rule.specs.Dropping.{DropCounts, drop_refusal, drop_counts_of, marks_dropped}
use Rattle.api_code.specs.Code.{with_counts, counts_after}
use Rattle.api_plan.specs.Call.{plan_figures_of, plan_call}

-- ---- growing: planning's refusals (`plan_call`), records (`plan_records`) and counts with cost 0

unfoldable pub grow_marks : Survey → (marks records counts : List ℕ) → List ℕ
grow_marks s marks records counts = written (plan_call s marks records counts) (marks_grown s marks records) marks

unfoldable pub grow_counts : Survey → (marks records counts : List ℕ) → List ℕ
grow_counts s marks records counts = counts_after (plan_call s marks records counts) (plan_figures_of (grown_counts_of (plan_of (problem_of s)))) counts

-- ---- dropping

-- entries of the counts of dropping: k and cost
abbrev pub drop_figures : ℕ
drop_figures = 2

unfoldable pub drop_figures_of : DropCounts → List ℕ
drop_figures_of c = c.terminals ∷ c.cost ∷ []

-- 1 to 6, 18, then 7 for counts that do not fit, then 9, 10, 21, 14.
unfoldable pub drop_call : Survey → (marks counts : List ℕ) → Verdict
drop_call s marks counts = with_counts s drop_figures (length counts) (drop_refusal s marks)

unfoldable pub drop_marks : Survey → (marks counts : List ℕ) → List ℕ
drop_marks s marks counts = written (drop_call s marks counts) (marks_dropped s marks) marks

unfoldable pub dropped_counts : Survey → (marks counts : List ℕ) → List ℕ
dropped_counts s marks counts = counts_after (drop_call s marks counts) (drop_figures_of (drop_counts_of s marks)) counts
