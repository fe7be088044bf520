-- The stages of the checker as its code takes them: refusals that are found together, what each stage leaves
-- to the next, and what an answer of the call says.
use Rattle.std.specs.Prelude.{ℕ, ◌*◌, ◌≤◌, List, [], length, get_or, ltb}
use Rattle.base_limits.specs.Limits.{max_vertices, max_edges, max_weight, max_value, max_duals}
use Rattle.base_limits.specs.Verdict.{refuse_if, ◌before◌, lowest_below, Outcome, refusal, answer}
use Rattle.base_limits.specs.declared.Verdict.{Verdict}
use Rattle.theory_steiner.specs.Problem.{terminals, cost}
use Rattle.theory_steiner.specs.Dual.{total}
use Rattle.survey_core.specs.Survey.{Survey, survey_from, groups_alone, edge_count, problem_of}
use Rattle.survey_core.specs.Refusal.{survey_refusal}
use Rattle.check_rule.specs.Check.{Checked, duals_in, kept_by, shape_refusal}
use Rattle.check_core.specs.Moats.{DualsFit}
use Rattle.check_core.specs.declared.Checking.{Checking}
use Rattle.check_core.specs.declared.Checking.TheVariants.{Passed, Refused}

abbrev pub checked_as : (terminals cost bound : ℕ) → Checked
checked_as terminals cost bound = record { terminals = terminals; cost = cost; bound = bound }

-- What 1 to 11 leave of the counts.
pub record CountsFit (terminals cost bound : ℕ) : Type 0 where
  pub terminals_few : terminals ≤ max_vertices
  pub cost_small : cost ≤ max_edges * max_weight
  pub bound_small : bound ≤ max_duals * max_value

-- 1 to 6, 18, then 9 and 10.
unfoldable pub input_refusal : Survey → (marks records : List ℕ) → Verdict
input_refusal s marks records =
    survey_refusal s
    before shape_refusal s marks records
    before lowest_below (edge_count s) (λ e. refuse_if (ltb 2 (get_or marks e 0)) 10 e)

-- What 1 to 11 leave of a plan whose counts are judged.
pub record PlanFits (groups firsts weights marks records : List ℕ) : Type 0 where
  pub edges_few : length firsts ≤ max_edges
  pub duals : DualsFit records
  pub counts :
      CountsFit
      (terminals (problem_of (groups_alone groups)))
      (cost (problem_of (survey_from [] firsts [] weights)) (kept_by marks))
      (total (duals_in records))

-- What an answer of the call says: document 01's refusal, or k, kept cost and bound.
unfoldable pub checked_outcome : Checking → Outcome Checked
checked_outcome (Passed terminals cost bound) = answer (checked_as terminals cost bound)
checked_outcome (Refused number place) = refusal number place
