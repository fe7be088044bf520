-- `stopped_lines` meets its contract: by the case that it is.
use mathlib.Core.Path.{sym, ap}
use Rattle.format_read.specs.Step.{stopped}
use Rattle.format_read.specs.Answer.{number_step}
use Rattle.format_survey.specs.Reading.{SurveyText}
use Rattle.text_merge.specs.Front.{front_of}
use Rattle.text_merge.proofs.read.stopped_lines.Goals as goal

pub returns-in-Refused : goal.returns-in-Refused
unfolding front_of number_step stopped
returns-in-Refused c = sym (ap (λ y. front_of (stopped {B = SurveyText} (number_step y))) c.in-Refused.is)

pub returns-in-Value : goal.returns-in-Value
unfolding front_of number_step stopped
returns-in-Value c = sym (ap (λ y. front_of (stopped {B = SurveyText} (number_step y))) c.in-Value.is)
