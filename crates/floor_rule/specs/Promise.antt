-- What the call promises beside its answer. Laws/Promise proves it of every call.
use Rattle.std.specs.Prelude.{ℕ, ◌*◌, ◌≤◌, ◌≡◌, Bool}
use Rattle.base_limits.specs.Verdict.{Outcome, answer}
use Rattle.theory_steiner.specs.Problem.{EdgeSet, Joins, all_usable, cost}
use Rattle.survey_core.specs.Survey.{Survey, problem_of}
use Rattle.survey_core.specs.Sound.{SurveySound}
use Rattle.floor_rule.specs.Floor.{FloorCounts, floor_counts_of}

-- What an answered floor is worth.
pub record FloorHolds (s : Survey) (f : FloorCounts) : Type 0 where
  -- no set of tracks that joins every group costs less
  pub below : (F : ℕ → Bool) → EdgeSet (problem_of s) F → Joins (problem_of s) F → f.floor ≤ cost (problem_of s) F
  -- nor does the plan, and where it costs no more no set that joins costs less
  pub plan_above : f.floor ≤ f.cost
  pub cheapest : f.floor ≡ f.cost → (F : ℕ → Bool) → EdgeSet (problem_of s) F → Joins (problem_of s) F → f.cost ≤ cost (problem_of s) F
  -- it is at least half the bound
  pub half : f.bound ≤ 2 * f.floor
  -- a floor of 0 is that of a plan that costs nothing
  pub free : f.floor ≡ 0 → f.cost ≡ 0

-- None of 1 to 6, 18 and 8 applies.
pub record Floorable (s : Survey) : Type 0 where
  pub survey : SurveySound s
  pub joinable : Joins (problem_of s) (all_usable (problem_of s))

-- What a call answers, for any survey.
pub record FloorPromises (s : Survey) (o : Outcome FloorCounts) : Type 0 where
  pub answered : (f : FloorCounts) → o ≡ answer f → Floorable s × FloorHolds s f
  pub answers : Floorable s → o ≡ answer (floor_counts_of s)
