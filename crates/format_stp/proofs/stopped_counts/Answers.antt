-- `format_stp::stopped_counts` meets its contract, by the case that the step is.
use mathlib.Core.Path.{sym, ap}
use Rattle.format_survey.specs.LinesAnswer.{counts_step}
use Rattle.format_survey.specs.Line.{SurveyCounts}
use Rattle.format_read.specs.Step.{stopped}
use Rattle.format_stp.specs.StpReading.{stp_outcome, stp_number}
use Rattle.format_stp.specs.Answer.{stp_answer}
use Rattle.format_stp.proofs.stopped_counts.Goals as goal

pub returns-in-Refused : goal.returns-in-Refused
unfolding stp_answer counts_step stopped stp_outcome
returns-in-Refused c =
    rw c.stp_number.ensures (sym (ap (λ x. stp_outcome (stopped {B = SurveyCounts} (counts_step x))) c.in-Refused.is))

pub returns-in-Counts : goal.returns-in-Counts
unfolding stp_answer counts_step stopped stp_outcome stp_number
returns-in-Counts c = sym (ap (λ x. stp_outcome (stopped {B = SurveyCounts} (counts_step x))) c.in-Counts.is)
