-- Where the figures show that nothing is cheaper (document 02, No. 14: 'Where near best is best'): a buyer's own test
-- of a plan that passes, whoever drew it. Laws/Exact proves it of whatever passes.
use Rattle.std.specs.Prelude.{ℕ, ◌*◌, ◌≤◌, ◌≡◌, Bool, true, List, leb}
use Rattle.theory_steiner.specs.Problem.{EdgeSet, Joins, cost}
use Rattle.survey_core.specs.Survey.{Survey, problem_of}
use Rattle.check_rule.specs.Check.{Checked, kept_by}

-- No set of surveyed tracks that joins every group costs less than c.
abbrev pub NoneCheaper : Survey → ℕ → Type 0
NoneCheaper s c = (F : ℕ → Bool) → EdgeSet (problem_of s) F → Joins (problem_of s) F → c ≤ cost (problem_of s) F

-- The test: twice the cost is at most the bound. With no site both are 0, and it holds.
unfoldable pub shows_cheapest : (cost bound : ℕ) → Bool
shows_cheapest c b = leb (2 * c) b

-- Marks that pass with these figures.
pub record Certified (s : Survey) (marks : List ℕ) (c : Checked) : Type 0 where
  -- the tracks marked 2 join every group, for the cost reported
  pub joins : Joins (problem_of s) (kept_by marks)
  pub kept_cost_law : c.cost ≡ cost (problem_of s) (kept_by marks)
  -- where the test holds nothing that joins is cheaper, and the bound is exactly twice the cost
  pub none_cheaper : shows_cheapest c.cost c.bound ≡ true → NoneCheaper s c.cost
  pub bound_exact : shows_cheapest c.cost c.bound ≡ true → c.bound ≡ 2 * c.cost
  -- with exactly two sites it holds of whatever passes, and with none
  pub two_sites : c.terminals ≡ 2 → shows_cheapest c.cost c.bound ≡ true
  pub no_sites : c.terminals ≡ 0 → shows_cheapest c.cost c.bound ≡ true
