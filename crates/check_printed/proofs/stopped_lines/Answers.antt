-- `check_printed::stopped_lines` meets its contract, by the case that the step is.
use mathlib.Core.Path.{sym, ap}
use Rattle.check_rule.specs.Check.{Checked}
use Rattle.format_read.specs.Step.{stopped}
use Rattle.format_survey.specs.Reading.{step_outcome}
use Rattle.format_read.specs.Answer.{number_step}
use Rattle.check_printed.specs.Answer.{verified_outcome}
use Rattle.check_printed.proofs.stopped_lines.Goals as goal

pub returns-in-Refused : goal.returns-in-Refused
unfolding verified_outcome number_step stopped step_outcome
returns-in-Refused c = sym (ap (λ x. step_outcome (stopped {B = Checked} (number_step x))) c.in-Refused.is)

pub returns-in-Value : goal.returns-in-Value
unfolding verified_outcome number_step stopped step_outcome
returns-in-Value c = sym (ap (λ x. step_outcome (stopped {B = Checked} (number_step x))) c.in-Value.is)
