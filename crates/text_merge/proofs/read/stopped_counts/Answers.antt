-- `stopped_counts` meets its contract: by the case that it is.
use mathlib.Core.Path.{sym, ap}
use Rattle.format_read.specs.Step.{stopped}
use Rattle.format_survey.specs.LinesAnswer.{counts_step}
use Rattle.format_survey.specs.Reading.{SurveyText}
use Rattle.text_merge.specs.Front.{front_of}
use Rattle.text_merge.proofs.read.stopped_counts.Goals as goal

pub returns-in-Refused : goal.returns-in-Refused
unfolding front_of counts_step stopped
returns-in-Refused c = sym (ap (λ y. front_of (stopped {B = SurveyText} (counts_step y))) c.in-Refused.is)

pub returns-in-Counts : goal.returns-in-Counts
unfolding front_of counts_step stopped
returns-in-Counts c = sym (ap (λ y. front_of (stopped {B = SurveyText} (counts_step y))) c.in-Counts.is)
