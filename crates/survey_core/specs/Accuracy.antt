-- The accuracy rule (document 01, 'The survey and the plan'): what is promised of a reported k and cost; and what a reported bound is worth.
use Rattle.std.specs.Prelude.{ℕ, ◌*◌, ◌-◌, ◌≤◌, ◌≡◌, Bool}
use Rattle.theory_steiner.specs.Problem.{EdgeSet, Joins, cost}
use Rattle.survey_core.specs.Survey.{Survey, problem_of}

-- For any set of surveyed tracks that joins every group, 2k - 2 times its cost is at least k times c; and with no site, c is 0.
pub record Accurate (s : Survey) (k c : ℕ) : Type 0 where
  pub factor : (F : ℕ → Bool) → EdgeSet (problem_of s) F → Joins (problem_of s) F → k * c ≤ (2 * k - 2) * cost (problem_of s) F
  pub free : k ≡ 0 → c ≡ 0

-- For any set of surveyed tracks that joins every group, twice its cost is at least b: none costs less than half the bound.
pub record DualBound (s : Survey) (b : ℕ) : Type 0 where
  pub halved : (F : ℕ → Bool) → EdgeSet (problem_of s) F → Joins (problem_of s) F → b ≤ 2 * cost (problem_of s) F
