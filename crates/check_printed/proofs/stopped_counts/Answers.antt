-- `check_printed::stopped_counts` meets its contract, by the case that the step is.
use mathlib.Core.Path.{sym, ap}
use Rattle.check_rule.specs.Check.{Checked}
use Rattle.format_read.specs.Step.{stopped}
use Rattle.format_survey.specs.Reading.{step_outcome}
use Rattle.format_survey.specs.LinesAnswer.{counts_step}
use Rattle.check_printed.specs.Answer.{verified_outcome}
use Rattle.check_printed.proofs.stopped_counts.Goals as goal

pub returns-in-Refused : goal.returns-in-Refused
unfolding verified_outcome counts_step stopped step_outcome
returns-in-Refused c = sym (ap (λ x. step_outcome (stopped {B = Checked} (counts_step x))) c.in-Refused.is)

pub returns-in-Counts : goal.returns-in-Counts
unfolding verified_outcome counts_step stopped step_outcome
returns-in-Counts c = sym (ap (λ x. step_outcome (stopped {B = Checked} (counts_step x))) c.in-Counts.is)
