-- `format_stp::line::edge_line` meets its contract: a refusal of any part stays, and a value goes on to the next part.
use mathlib.Core.Path.{sym, ◌∙◌}
use Rattle.format_read.proofs.Laws.NumberStep.{stopped_stays, value_goes}
use Rattle.format_read.specs.Number.{stop_of}
use Rattle.format_survey.specs.LinesAnswer.{edge_step}
use Rattle.format_stp.specs.StpReading.{stp_edge}
use Rattle.format_stp.proofs.line.edge_line.Goals as goal

pub returns-in_default : goal.returns-in_default
unfolding stp_edge stop_of
returns-in_default c = c.stopped_edge.ensures ∙ stopped_stays _ c.fixed-word.ensures c.in_default.is

pub returns-in_default-one : goal.returns-in_default-one
unfolding stp_edge stop_of
returns-in_default-one c =
    c.stopped_edge-in_default-one.ensures
    ∙ stopped_stays _ c.endpoint-one.ensures c.in_default-one.is
    ∙ sym (value_goes _ c.fixed-word.ensures c.in-Value.is)

pub returns-in_default-two : goal.returns-in_default-two
unfolding stp_edge stop_of
returns-in_default-two c =
    c.stopped_edge-in_default-two.ensures
    ∙ stopped_stays _ c.endpoint-two.ensures c.in_default-two.is
    ∙ sym (value_goes _ c.endpoint-one.ensures c.in-Value-one.is)
    ∙ sym (value_goes _ c.fixed-word.ensures c.in-Value.is)

pub returns-in_default-three : goal.returns-in_default-three
unfolding stp_edge stop_of
returns-in_default-three c =
    c.stopped_edge-in_default-three.ensures
    ∙ stopped_stays _ c.number_to-three.ensures c.in_default-three.is
    ∙ sym (value_goes _ c.endpoint-two.ensures c.in-Value-two.is)
    ∙ sym (value_goes _ c.endpoint-one.ensures c.in-Value-one.is)
    ∙ sym (value_goes _ c.fixed-word.ensures c.in-Value.is)

pub returns : goal.returns
unfolding stp_edge stop_of edge_step
returns c =
    rw (c.from_zero.ensures, c.from_zero-2.ensures)
    (sym (value_goes _ c.number_to-three.ensures c.in-Value-three.is)
    ∙ sym (value_goes _ c.endpoint-two.ensures c.in-Value-two.is)
    ∙ sym (value_goes _ c.endpoint-one.ensures c.in-Value-one.is)
    ∙ sym (value_goes _ c.fixed-word.ensures c.in-Value.is))
