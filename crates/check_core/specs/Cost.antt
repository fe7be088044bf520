-- What the kept edges cost, said for any number of edges, so that no sum wraps.
use Rattle.std.specs.Prelude.{ℕ, ◌≤◌, ◌≡◌, List, [], length, take}
use Rattle.std.proofs.Common.{ap, ◌∙◌, take_all}
use Rattle.base_limits.specs.Limits.{max_edges}
use Rattle.theory_steiner.specs.Problem.{cost}
use Rattle.survey_core.specs.Survey.{survey_from, problem_of}
use Rattle.check_rule.specs.Check.{kept_by}

-- The cost of the first edges that are marked kept, as many as a survey may have.
unfoldable pub kept_cost : (firsts weights marks : List ℕ) → ℕ
kept_cost firsts weights marks = cost (problem_of (survey_from [] (take max_edges firsts) [] weights)) (kept_by marks)

-- Of a survey within the limits that is all of them.
pub kept_cost_all : (firsts weights marks : List ℕ) {sum : ℕ} → length firsts ≤ max_edges → sum ≡ kept_cost firsts weights marks
    → sum ≡ cost (problem_of (survey_from [] firsts [] weights)) (kept_by marks)
unfolding kept_cost
kept_cost_all firsts weights marks few h =
    h ∙ ap (λ l. cost (problem_of (survey_from [] l [] weights)) (kept_by marks)) (take_all max_edges firsts few)
