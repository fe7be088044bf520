-- What the answers of the code say in the terms of the definitions.
use Rattle.std.specs.Prelude.{ℕ, length}
use Rattle.base_limits.specs.Verdict.{Outcome, refusal, answer}
use Rattle.format_read.specs.Step.{Step, found, refused}
use Rattle.format_plan.specs.Plan.{Claims, PrintedPlan}
use Rattle.format_plan.specs.declared.PlanText.{PlanText}
use Rattle.format_plan.specs.declared.PlanText.TheVariants.{Plan as PlanFound, Refused as PlanRefused}
use Rattle.format_plan.specs.declared.Claims.{Claims as ClaimsLines}
use Rattle.format_plan.specs.declared.Claims.TheVariants.{Found, Refused}

unfoldable pub claims_step : ClaimsLines → Step Claims
claims_step (Found k c b r next) = found (record { terminals = k; cost = c; bound = b; rounds = r }) next.at
claims_step (Refused number place) = refused number place

-- The answer of reading: the counts, and the number of moats.
pub record Read : Type 0 where
  pub claims : Claims
  pub duals : ℕ

unfoldable pub plan_outcome : PlanText → Outcome Read
plan_outcome (PlanFound k c b r duals) = answer (record { claims = record { terminals = k; cost = c; bound = b; rounds = r }; duals = duals })
plan_outcome (PlanRefused number place) = refusal number place

unfoldable pub read_of : Outcome PrintedPlan → Outcome Read
read_of (refusal number place) = refusal number place
read_of (answer p) = answer (record { claims = p.claims; duals = length p.duals })
