-- `text_season::add_text` meets its contract, by the cases of the counts.
use mathlib.Core.Path.{ap, ◌∙◌}
use Rattle.format_read.specs.Step.{stopped}
use Rattle.format_survey.specs.Line.{tests_for, vertices_test, edges_test}
use Rattle.format_survey.specs.LinesAnswer.{counts_step}
use Rattle.format_survey.specs.Reading.{SurveyText}
use Rattle.check_printed.specs.Laws.Verify.{counted_few}
use Rattle.text_season.specs.Added.{added_from}
use Rattle.text_season.specs.Laws.Added.{added_uncounted, added_counted}
use Rattle.text_season.proofs.add_text.Goals as goal

-- the counts are refused
pub returns-in_default : goal.returns-in_default
unfolding counts_step stopped added_from tests_for vertices_test edges_test
returns-in_default c =
    let told = c.in_default.is in
    c.stopped_counts.ensures ∙ ap (λ x. added_from c.args.report (stopped {B = SurveyText} (counts_step x))) told
    ∙ added_uncounted c.args.report c.args.text.now c.counts-head.ensures (ap counts_step told)

pub add_lines-requires : goal.add_lines-requires
unfolding counts_step tests_for vertices_test edges_test
add_lines-requires c = counted_few c.args.text.now c.counts-head.ensures (ap counts_step c.in-Counts.is)

-- the lines follow
pub returns : goal.returns
unfolding counts_step tests_for vertices_test edges_test
returns c = c.add_lines.ensures ∙ added_counted c.args.report c.args.text.now c.counts-head.ensures (ap counts_step c.in-Counts.is)
