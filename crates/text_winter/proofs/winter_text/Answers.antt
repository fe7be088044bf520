-- `winter_text` meets its contract, by the cases of the counts.
use mathlib.Core.Path.{ap}
use Rattle.format_survey.specs.Line.{tests_for, vertices_test, edges_test}
use Rattle.format_survey.specs.LinesAnswer.{counts_step}
use Rattle.check_printed.specs.Laws.Verify.{counted_few}
use Rattle.text_winter.proofs.Laws.Output.{printed_as, uncounted_output, counted_output}
use Rattle.text_winter.proofs.winter_text.Goals as goal

pub winter_lines-requires : goal.winter_lines-requires
unfolding counts_step tests_for vertices_test edges_test
winter_lines-requires c =
    counted_few c.args.text.now c.counts.ensures (ap counts_step c.in-Counts.is)

pub returns-in-Refused : goal.returns-in-Refused
unfolding counts_step tests_for vertices_test edges_test
returns-in-Refused c =
    let a = c.args in
    let whole = printed_as a.out.now (uncounted_output a.text.now c.counts.ensures (ap counts_step c.in-Refused.is)) (c.print_refusal.ensures.value, c.print_refusal.ensures.out_value) in record { value = whole.0; out_value = whole.1 }

pub returns-in-Counts : goal.returns-in-Counts
unfolding counts_step tests_for vertices_test edges_test
returns-in-Counts c =
    let a = c.args in
    let whole = printed_as a.out.now (counted_output a.text.now c.counts.ensures (ap counts_step c.in-Counts.is)) (c.winter_lines.ensures.result_value, c.winter_lines.ensures.out_value) in record { value = whole.0; out_value = whole.1 }
