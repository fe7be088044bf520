-- `stopped_line` meets its contract, by the case that the line is.
use Prim.Native.Nat.{ℕ}
use mathlib.Core.Path.{sym, ap}
use Rattle.format_read.specs.Step.{stopped}
use Rattle.format_read.specs.Answer.{number_step}
use Rattle.text_winter.specs.Given.{given_step}
use Rattle.text_winter.proofs.given.stopped_line.Goals as goal

pub returns-in-Refused : goal.returns-in-Refused
unfolding given_step number_step stopped
returns-in-Refused c =
    sym (ap (λ x. stopped {B = ℕ} (given_step x)) c.in-Refused.is)

pub returns-in-Given : goal.returns-in-Given
unfolding given_step number_step stopped
returns-in-Given c =
    sym (ap (λ x. stopped {B = ℕ} (given_step x)) c.in-Given.is)
