-- `format_survey::counts::stopped_head` meets its contract, by the case that the step is.
use mathlib.Core.Path.{sym, ap}
use Rattle.format_survey.specs.Line.{SurveyCounts}
use Rattle.format_survey.specs.LinesAnswer.{counts_step}
use Rattle.format_read.specs.Answer.{number_step}
use Rattle.format_read.specs.Step.{stopped}
use Rattle.format_survey.proofs.counts.stopped_head.Goals as goal

pub returns-in-Refused : goal.returns-in-Refused
unfolding counts_step number_step stopped
returns-in-Refused c = sym (ap (λ x. stopped {B = SurveyCounts} (number_step x)) c.in-Refused.is)

pub returns-in-Value : goal.returns-in-Value
unfolding counts_step number_step stopped
returns-in-Value c = sym (ap (λ x. stopped {B = SurveyCounts} (number_step x)) c.in-Value.is)
