-- `format_survey::stopped_edge` meets its contract, by the case that the step is.
use mathlib.Core.Path.{sym, ap}
use Rattle.format_survey.specs.Line.{Edge}
use Rattle.format_survey.specs.LinesAnswer.{edge_step}
use Rattle.format_read.specs.Answer.{number_step}
use Rattle.format_read.specs.Step.{stopped}
use Rattle.format_survey.proofs.edge.stopped_edge.Goals as goal

pub returns-in-Refused : goal.returns-in-Refused
unfolding edge_step number_step stopped
returns-in-Refused c = sym (ap (λ x. stopped {B = Edge} (number_step x)) c.in-Refused.is)

pub returns-in-Value : goal.returns-in-Value
unfolding edge_step number_step stopped
returns-in-Value c = sym (ap (λ x. stopped {B = Edge} (number_step x)) c.in-Value.is)
