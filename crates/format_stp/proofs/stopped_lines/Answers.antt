-- `format_stp::stopped_lines` meets its contract, by the case that the step is.
use mathlib.Core.Path.{sym, ap}
use Rattle.format_read.specs.Answer.{number_step}
use Rattle.format_survey.specs.Line.{SurveyCounts}
use Rattle.format_read.specs.Step.{stopped}
use Rattle.format_stp.specs.StpReading.{stp_outcome, stp_number}
use Rattle.format_stp.specs.Answer.{stp_answer}
use Rattle.format_stp.proofs.stopped_lines.Goals as goal

pub returns-in-Refused : goal.returns-in-Refused
unfolding stp_answer number_step stopped stp_outcome
returns-in-Refused c =
    rw c.stp_number.ensures (sym (ap (λ x. stp_outcome (stopped {B = SurveyCounts} (number_step x))) c.in-Refused.is))

pub returns-in-Value : goal.returns-in-Value
unfolding stp_answer number_step stopped stp_outcome stp_number
returns-in-Value c = sym (ap (λ x. stp_outcome (stopped {B = SurveyCounts} (number_step x))) c.in-Value.is)
