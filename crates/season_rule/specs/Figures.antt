-- What the season takes of a survey (document 02, No. 11): the cost and bound of planning's figures, or its refusal.
-- Planning has buffers of its own, so 7 does not come (law `figures_planning`).
use Rattle.std.specs.Prelude.{ℕ, Bool, true, false, eqb}
use Rattle.base_limits.specs.Verdict.{Outcome, refusal, answer}
use Rattle.survey_core.specs.Survey.{Survey}
use Rattle.plan_rule.specs.Plan.{PlanCounts}
use Rattle.plan_rule.specs.Figures.{FigureCounts, figuring}

-- The bound is in half units, as in document 01.
pub record Figures : Type 0 where
  pub cost : ℕ
  pub bound : ℕ

-- The two numbers among planning's figures, and among the counts that planning answers.
unfoldable pub figures_of : Outcome FigureCounts → Outcome Figures
figures_of (refusal number place) = refusal number place
figures_of (answer c) = answer (record { cost = c.cost; bound = c.bound })

unfoldable pub counts_figures : Outcome PlanCounts → Outcome Figures
counts_figures (refusal number place) = refusal number place
counts_figures (answer c) = answer (record { cost = c.cost; bound = c.bound })

unfoldable pub figures : Survey → Outcome Figures
figures s = figures_of (figuring s)

-- ---- one survey in sums and counts

unfoldable pub is_planned : Outcome Figures → Bool
is_planned (refusal number place) = false
is_planned (answer f) = true

-- Refused under this number.
unfoldable pub is_refused : ℕ → Outcome Figures → Bool
is_refused k (refusal number place) = eqb number k
is_refused k (answer f) = false

unfoldable pub cost_of : Outcome Figures → ℕ
cost_of (refusal number place) = 0
cost_of (answer f) = f.cost

unfoldable pub bound_of : Outcome Figures → ℕ
bound_of (refusal number place) = 0
bound_of (answer f) = f.bound
