-- `format_also::stopped_line` meets its contract, by the case that the line is.
use Prim.Native.Nat.{ℕ}
use mathlib.Core.Path.{sym, ap}
use Rattle.format_also.specs.Answer.{pair_step}
use Rattle.format_read.specs.Answer.{number_step}
use Rattle.format_read.specs.Step.{stopped}
use Rattle.format_also.proofs.stopped_line.Goals as goal

pub returns-in-Refused : goal.returns-in-Refused
unfolding pair_step number_step stopped
returns-in-Refused c = sym (ap (λ x. stopped {B = ℕ} (pair_step x)) c.in-Refused.is)

pub returns-in-Pair : goal.returns-in-Pair
unfolding pair_step number_step stopped
returns-in-Pair c = sym (ap (λ x. stopped {B = ℕ} (pair_step x)) c.in-Pair.is)
