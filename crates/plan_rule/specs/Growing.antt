-- Growing by itself (document 02, No. 7): planning before any picked track is dropped. Its refusals are planning's, `plan_refusal`, and its records planning's, `records_after`.
use Rattle.std.specs.Prelude.{ℕ, List, ◌++◌, length, drop}
use Rattle.base_finite.specs.Below.{counted, tabulate}
use Rattle.base_limits.specs.Verdict.{Outcome, outcome, written}
use Rattle.theory_steiner.specs.Problem.{Problem}
use Rattle.theory_steiner.specs.Pruning.{picked}
use Rattle.survey_core.specs.Survey.{Survey, edge_count, problem_of}
use Rattle.plan_rule.specs.Plan.{Plan, plan_of, plan_refusal, PlanCounts}

-- Planning's counts; nothing is kept yet, so the cost is 0.
unfoldable pub grown_counts_of : Plan → PlanCounts
grown_counts_of p = record { terminals = p.terminals; cost = 0; bound = p.bound; rounds = p.rounds; duals = length p.duals }

-- 1 for a picked track, 0 for any other.
unfoldable pub picked_marks : Problem → List ℕ
picked_marks p = tabulate p.edges (λ e. counted (picked p e) 1)

unfoldable pub growing : Survey → (marks_length records_length : ℕ) → Outcome PlanCounts
growing s marks_length records_length = outcome (plan_refusal s marks_length records_length) (grown_counts_of (plan_of (problem_of s)))

-- What the buffer lent for marks holds at the end; bytes after the last mark keep their values.
unfoldable pub marks_grown : Survey → (marks records : List ℕ) → List ℕ
marks_grown s marks records =
    written (plan_refusal s (length marks) (length records)) (picked_marks (problem_of s) ++ drop (edge_count s) marks) marks
