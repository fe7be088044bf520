-- `format_plan::claim_lines::stopped_claims` meets its contract, by the case that the step is.
use mathlib.Core.Path.{sym, ap}
use Rattle.format_read.specs.Answer.{number_step}
use Rattle.format_read.specs.Step.{stopped}
use Rattle.format_plan.specs.Plan.{Claims}
use Rattle.format_plan.specs.Answer.{claims_step}
use Rattle.format_plan.proofs.claim_lines.stopped_claims.Goals as goal

pub returns-in-Refused : goal.returns-in-Refused
unfolding claims_step number_step stopped
returns-in-Refused c = sym (ap (λ x. stopped {B = Claims} (number_step x)) c.in-Refused.is)

pub returns-in-Value : goal.returns-in-Value
unfolding claims_step number_step stopped
returns-in-Value c = sym (ap (λ x. stopped {B = Claims} (number_step x)) c.in-Value.is)
