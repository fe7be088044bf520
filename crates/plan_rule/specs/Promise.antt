-- What planning promises beside its answer and its buffers, in words of the survey: for the buyer, by the number of the demand (docs/TRACE.md, 'The demands').
-- Laws/Promise proves it of every call.
use Rattle.std.specs.Prelude.{ℕ, ◌*◌, ◌-◌, ◌≤◌, ◌<◌, ◌≡◌, Bool, false, List, length, take}
use Rattle.base_finite.specs.Below.{count_below}
use Rattle.base_limits.specs.Limits.{record_bytes, duals_for}
use Rattle.base_limits.specs.Verdict.{Outcome, refusal, answer}
use Rattle.theory_steiner.specs.Problem.{Joins, EdgeSet, all_usable}
use Rattle.theory_steiner.specs.Growth.{active, state_at}
use Rattle.theory_steiner.specs.Pruning.{picked}
use Rattle.theory_steiner.specs.Rounds.{bound_of_rounds, TakesRounds}
use Rattle.survey_core.specs.Survey.{Survey, vertex_count, edge_count, problem_of, JoinsGroup}
use Rattle.survey_core.specs.Accuracy.{Accurate, DualBound}
use Rattle.survey_core.specs.Sound.{SurveySound}
use Rattle.check_rule.specs.Check.{checking}
use Rattle.plan_rule.specs.Needed.{KeptByNeed}
use Rattle.plan_rule.specs.Plan.{PlanCounts, plan_counts_of, plan_of, marks_after, records_after}
use Rattle.plan_rule.specs.Exact.{Exact}

-- None of 1 to 8 and 18 applies: the survey is sound (1 to 6, 18), the two buffers are long enough (7), and all tracks together join every group (8).
pub record Ready (s : Survey) (marks_length records_length : ℕ) : Type 0 where
  pub survey : SurveySound s
  pub marks_fit : edge_count s ≤ marks_length
  pub records_fit : record_bytes * duals_for (vertex_count s) ≤ records_length
  pub joinable : Joins (problem_of s) (all_usable (problem_of s))

-- 8 applies with place g: none of 1 to 7 and 18 does, and g is the lowest group that no set of tracks joins.
pub record Unjoinable (s : Survey) (marks_length records_length g : ℕ) : Type 0 where
  pub survey : SurveySound s
  pub marks_fit : edge_count s ≤ marks_length
  pub records_fit : record_bytes * duals_for (vertex_count s) ≤ records_length
  pub none_joins : (F : ℕ → Bool) → EdgeSet (problem_of s) F → JoinsGroup s F g → ⊥
  pub lower_joined : (i : ℕ) → i < g → JoinsGroup s (all_usable (problem_of s)) i

-- A finished plan with these counts, in buffers that held these marks and records before.
pub record FinishedPlan (s : Survey) (marks records : List ℕ) (c : PlanCounts) : Type 0 where
  pub ready : Ready s (length marks) (length records)
  -- 'How moats grow': as many rounds as picked tracks, and at most n - 1
  pub rounds_picked : c.rounds ≡ count_below (edge_count s) (picked (problem_of s))
  pub rounds_few : c.rounds ≤ vertex_count s - 1
  -- the definition's steps: each round has a winner, after them there is none, and no component grows
  pub rounds_steps : TakesRounds (problem_of s) c.rounds
  pub rounds_rest : (v : ℕ) → active (problem_of s) (state_at (problem_of s) c.rounds).label v ≡ false
  -- the bound: each round's wait, times how many components grow in it, summed up
  pub bound_rounds : c.bound ≡ bound_of_rounds (problem_of s) c.rounds
  -- demand 2: kept exactly if without it the other picked tracks fail to link two members, none spare
  pub needed : KeptByNeed s (take (edge_count s) (marks_after s marks records))
  -- demand 3: the checker passes the marks and records that were written, with the same k, cost and bound
  pub passes_checker :
      checking s (take (edge_count s) (marks_after s marks records)) (take (record_bytes * c.duals) (records_after s marks records))
      ≡ answer (record { terminals = c.terminals; cost = c.cost; bound = c.bound })
  -- demand 3: the accuracy rule
  pub accuracy : Accurate s c.terminals c.cost
  -- and no joining set costs less than half the bound
  pub bound_halved : DualBound s c.bound
  -- document 02, No. 14: where near best is best
  pub exact : Exact s (take (edge_count s) (marks_after s marks records)) c

-- What a call answers, for any survey and any buffers.
pub record Promises (s : Survey) (marks records : List ℕ) (o : Outcome PlanCounts) : Type 0 where
  -- demand 1: finished exactly if none of 1 to 8 and 18 applies
  pub finished : (c : PlanCounts) → o ≡ answer c → FinishedPlan s marks records c
  pub finishes : Ready s (length marks) (length records) → o ≡ answer (plan_counts_of (plan_of (problem_of s)))
  -- demand 2: 8 exactly if no set of tracks joins some group, and then the lowest
  pub unjoinable : (g : ℕ) → o ≡ refusal 8 g → Unjoinable s (length marks) (length records) g
  pub unjoinable_refused : (g : ℕ) → Unjoinable s (length marks) (length records) g → o ≡ refusal 8 g
