-- `format_stp::counts` meets its contract: a refusal of any part stays, and a value goes on.
use mathlib.Core.Path.{sym, ◌∙◌}
use Rattle.format_survey.specs.LinesAnswer.{counts_step}
use Rattle.format_read.proofs.Laws.NumberStep.{stopped_stays, value_goes}
use Rattle.format_stp.specs.StpReading.{stp_tests}
use Rattle.format_stp.specs.Parts.{stp_counts}
use Rattle.format_stp.proofs.Laws.StpParts.{line_after}
use Rattle.format_stp.proofs.counts.Goals as goal

pub returns-in_default : goal.returns-in_default
unfolding stp_counts
returns-in_default c = c.stopped_head.ensures ∙ stopped_stays _ c.head-one.ensures c.in_default.is

pub returns-in_default-two : goal.returns-in_default-two
unfolding stp_counts stp_tests
returns-in_default-two c =
    c.stopped_head-in_default-two.ensures
    ∙ stopped_stays _ (line_after _ c.args.text.now _ c.skip.ensures c.vertices_line-two.ensures) c.in_default-two.is
    ∙ sym (value_goes _ c.head-one.ensures c.in-Value.is)

pub returns-in_default-three : goal.returns-in_default-three
unfolding stp_counts stp_tests
returns-in_default-three c =
    c.stopped_head-in_default-three.ensures
    ∙ stopped_stays _ (line_after _ c.args.text.now _ c.skip-2.ensures c.edges_line-three.ensures) c.in_default-three.is
    ∙ sym (value_goes _ (line_after _ c.args.text.now _ c.skip.ensures c.vertices_line-two.ensures) c.in-Value-two.is)
    ∙ sym (value_goes _ c.head-one.ensures c.in-Value.is)

pub returns : goal.returns
unfolding stp_counts stp_tests counts_step
returns c =
    sym (value_goes _ (line_after _ c.args.text.now _ c.skip-2.ensures c.edges_line-three.ensures) c.in-Value-three.is)
    ∙ sym (value_goes _ (line_after _ c.args.text.now _ c.skip.ensures c.vertices_line-two.ensures) c.in-Value-two.is)
    ∙ sym (value_goes _ c.head-one.ensures c.in-Value.is)
