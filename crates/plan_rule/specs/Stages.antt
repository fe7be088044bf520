-- Planning is growing and then dropping, which is lent just the m marks (document 02, No. 7; law `planning_stages`).
use Rattle.std.specs.Prelude.{ℕ, ◌<◌, ◌≡◌, ◌↔◌, List, ◌++◌, length, get_or, take, drop}
use Rattle.base_finite.specs.Below.{counted}
use Rattle.base_limits.specs.Verdict.{Outcome, refusal, answer}
use Rattle.theory_steiner.specs.Pruning.{picked}
use Rattle.survey_core.specs.Survey.{Survey, edge_count, problem_of}
use Rattle.plan_rule.specs.Plan.{PlanCounts, counting, marks_after, records_after}
use Rattle.plan_rule.specs.Growing.{growing, marks_grown}
use Rattle.plan_rule.specs.Dropping.{DropCounts, dropping, marks_dropped}

-- The answers of both: growing's refusal, or dropping's, or growing's counts with dropping's cost.
unfoldable pub then_dropping : Outcome PlanCounts → Outcome DropCounts → Outcome PlanCounts
then_dropping (refusal number place) d = refusal number place
then_dropping (answer g) (refusal number place) = refusal number place
then_dropping (answer g) (answer d) =
    answer (record { terminals = d.terminals; cost = d.cost; bound = g.bound; rounds = g.rounds; duals = g.duals })

-- The m marks that growing leaves.
unfoldable pub grown_part : Survey → (marks records : List ℕ) → List ℕ
grown_part s marks records = take (edge_count s) (marks_grown s marks records)

-- A call of planning with these buffers, beside the two calls.
pub record InStages (s : Survey) (marks records : List ℕ) : Type 0 where
  pub answers :
      counting s (length marks) (length records)
      ≡ then_dropping (growing s (length marks) (length records)) (dropping s (grown_part s marks records))
  -- both refuse alike; dropping refuses nothing that growing leaves
  pub refuses : (number place : ℕ)
      → (counting s (length marks) (length records) ≡ refusal number place) ↔ (growing s (length marks) (length records) ≡ refusal number place)
  -- growing picks and keeps nothing: marks 0 and 1, and cost 0
  pub grown_marks : (c : PlanCounts) → growing s (length marks) (length records) ≡ answer c
      → (e : ℕ) → e < edge_count s → get_or (marks_grown s marks records) e 0 ≡ counted (picked (problem_of s) e) 1
  pub grown_cost : (c : PlanCounts) → growing s (length marks) (length records) ≡ answer c → c.cost ≡ 0
  -- refused: the marks as they were; finished: dropping's marks in front of what growing left behind the m marks
  pub marks_refused : (number place : ℕ) → growing s (length marks) (length records) ≡ refusal number place
      → (marks_grown s marks records ≡ marks) × ((marks_after s marks records ≡ marks) × (records_after s marks records ≡ records))
  pub marks_finished : (c : PlanCounts) → growing s (length marks) (length records) ≡ answer c
      → marks_after s marks records ≡ marks_dropped s (grown_part s marks records) ++ drop (edge_count s) (marks_grown s marks records)
