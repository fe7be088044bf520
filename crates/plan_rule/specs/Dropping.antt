-- Dropping by itself (document 02, No. 7): any marks 0 and 1, of which those that are needed become 2 (source 001, Algorithm 22.3, step 3).
use Rattle.std.specs.Prelude.{ℕ, not, List, length, get_or, eqb, ltb}
use Rattle.base_finite.specs.Below.{tabulate}
use Rattle.base_limits.specs.Verdict.{refuse_if, ◌before◌, lowest_below, Outcome, outcome, written}
use Rattle.base_limits.specs.declared.Verdict.{Verdict}
use Rattle.theory_steiner.specs.Problem.{terminals, cost}
use Rattle.theory_steiner.specs.Pruning.{needed, mark_of}
use Rattle.survey_core.specs.Survey.{Survey, edge_count, problem_of}
use Rattle.survey_core.specs.Refusal.{survey_refusal, group_refusal}
use Rattle.survey_components.specs.Labels.{picked_in}
use Rattle.survey_components.specs.Forest.{loop_refusal}

-- 1 to 6 and 18, then 9 for marks not m long, 10 for a mark above 1, 21 for a picked track that closes a loop with picked ones of lower number, 14 for a list that the picked tracks leave apart.
unfoldable pub drop_refusal : Survey → (marks : List ℕ) → Verdict
drop_refusal s marks =
    survey_refusal s
    before refuse_if (not (eqb (length marks) (edge_count s))) 9 0
    before lowest_below (edge_count s) (λ e. refuse_if (ltb 1 (get_or marks e 0)) 10 e)
    before loop_refusal s (picked_in marks)
    before group_refusal s 14 (picked_in marks)

-- What dropping answers: k, and the cost of the needed tracks, all judged against the picked ones.
pub record DropCounts : Type 0 where
  pub terminals : ℕ
  pub cost : ℕ

unfoldable pub drop_counts_of : Survey → (marks : List ℕ) → DropCounts
drop_counts_of s marks =
    record { terminals = terminals (problem_of s); cost = cost (problem_of s) (needed (problem_of s) (picked_in marks)) }

unfoldable pub dropping : Survey → (marks : List ℕ) → Outcome DropCounts
dropping s marks = outcome (drop_refusal s marks) (drop_counts_of s marks)

-- 2 for a needed track, 1 for a picked one that is not, 0 for any other.
unfoldable pub needed_marks : Survey → (marks : List ℕ) → List ℕ
needed_marks s marks = tabulate (edge_count s) (λ e. mark_of (picked_in marks e) (needed (problem_of s) (picked_in marks) e))

-- What the lent marks hold at the end.
unfoldable pub marks_dropped : Survey → (marks : List ℕ) → List ℕ
marks_dropped s marks = written (drop_refusal s marks) (needed_marks s marks) marks
