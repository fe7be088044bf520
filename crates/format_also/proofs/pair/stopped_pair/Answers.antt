-- `format_also::pair::stopped_pair` meets its contract, by the case that the step is.
use mathlib.Core.Path.{sym, ap}
use Rattle.format_also.specs.Pair.{Pair}
use Rattle.format_also.specs.Answer.{pair_step}
use Rattle.format_read.specs.Answer.{number_step}
use Rattle.format_read.specs.Step.{stopped}
use Rattle.format_also.proofs.pair.stopped_pair.Goals as goal

pub returns-in-Refused : goal.returns-in-Refused
unfolding pair_step number_step stopped
returns-in-Refused c = sym (ap (λ x. stopped {B = Pair} (number_step x)) c.in-Refused.is)

pub returns-in-Value : goal.returns-in-Value
unfolding pair_step number_step stopped
returns-in-Value c = sym (ap (λ x. stopped {B = Pair} (number_step x)) c.in-Value.is)
