-- `stopped_given` meets its contract, by the case that the step is.
use mathlib.Core.Path.{sym, ap}
use Rattle.format_read.specs.Step.{stopped}
use Rattle.format_read.specs.Answer.{number_step}
use Rattle.text_winter.specs.Given.{Given, given_step}
use Rattle.text_winter.proofs.given.stopped_given.Goals as goal

pub returns-in-Refused : goal.returns-in-Refused
unfolding given_step number_step stopped
returns-in-Refused c =
    sym (ap (λ x. stopped {B = Given} (number_step x)) c.in-Refused.is)

pub returns-in-Value : goal.returns-in-Value
unfolding given_step number_step stopped
returns-in-Value c =
    sym (ap (λ x. stopped {B = Given} (number_step x)) c.in-Value.is)
