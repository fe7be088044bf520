-- `format_survey::stopped_line` meets its contract, by the case that the line is.
use Prim.Native.Nat.{ℕ}
use mathlib.Core.Path.{sym, ap}
use Rattle.format_survey.specs.LinesAnswer.{edge_step}
use Rattle.format_read.specs.Answer.{number_step}
use Rattle.format_read.specs.Step.{stopped}
use Rattle.format_survey.proofs.edges.stopped_line.Goals as goal

pub returns-in-Refused : goal.returns-in-Refused
unfolding edge_step number_step stopped
returns-in-Refused c = sym (ap (λ x. stopped {B = ℕ} (edge_step x)) c.in-Refused.is)

pub returns-in-Edge : goal.returns-in-Edge
unfolding edge_step number_step stopped
returns-in-Edge c = sym (ap (λ x. stopped {B = ℕ} (edge_step x)) c.in-Edge.is)
