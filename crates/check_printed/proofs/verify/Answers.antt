-- `check_printed::verify` meets its contract, by the cases of the counts.
use mathlib.Core.Path.{ap, ◌∙◌}
use Rattle.format_read.specs.Step.{stopped}
use Rattle.format_survey.specs.Line.{tests_for, vertices_test, edges_test}
use Rattle.format_survey.specs.LinesAnswer.{counts_step}
use Rattle.format_survey.specs.Reading.{step_outcome}
use Rattle.check_rule.specs.Check.{Checked}
use Rattle.check_printed.specs.Laws.Verify.{verified_uncounted, verified_counted, counted_few}
use Rattle.check_printed.proofs.verify.Goals as goal

-- the counts are refused
pub returns-in_default : goal.returns-in_default
unfolding counts_step stopped step_outcome tests_for vertices_test edges_test
returns-in_default c =
    let told = c.in_default.is in
    c.stopped_counts.ensures ∙ ap (λ x. step_outcome (stopped {B = Checked} (counts_step x))) told
    ∙ verified_uncounted c.args.text.now c.counts-head.ensures (ap counts_step told)

pub verify_lines-requires : goal.verify_lines-requires
unfolding counts_step tests_for vertices_test edges_test
verify_lines-requires c = counted_few c.args.text.now c.counts-head.ensures (ap counts_step c.in-Counts.is)

-- the lines follow
pub returns : goal.returns
unfolding counts_step tests_for vertices_test edges_test
returns c = c.verify_lines.ensures ∙ verified_counted c.args.text.now c.counts-head.ensures (ap counts_step c.in-Counts.is)
