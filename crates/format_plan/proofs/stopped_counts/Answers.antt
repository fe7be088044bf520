-- `format_plan::stopped_counts` meets its contract, by the case that the step is.
use mathlib.Core.Path.{sym, ap}
use Rattle.format_read.specs.Step.{stopped}
use Rattle.format_survey.specs.Reading.{step_outcome}
use Rattle.format_plan.specs.Answer.{Read, claims_step, plan_outcome}
use Rattle.format_plan.proofs.stopped_counts.Goals as goal

pub returns-in-Refused : goal.returns-in-Refused
unfolding plan_outcome claims_step stopped step_outcome
returns-in-Refused c = sym (ap (λ x. step_outcome (stopped {B = Read} (claims_step x))) c.in-Refused.is)

pub returns-in-Found : goal.returns-in-Found
unfolding plan_outcome claims_step stopped step_outcome
returns-in-Found c = sym (ap (λ x. step_outcome (stopped {B = Read} (claims_step x))) c.in-Found.is)
