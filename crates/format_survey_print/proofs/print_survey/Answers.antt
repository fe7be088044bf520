-- `print_survey`: refused by the lengths of the buffers that are read side by side, by the measured text, or printed.
use Prim.Native.Nat.{◌<◌}
use native.Mathlib.Omega.{arith}
use mathlib.Core.Path.{◌∙◌}
use lib.ListN.{length}
use Rattle.format_write.specs.Wrote.{farthest}
use Rattle.format_print.specs.Laws.Print.{short_prints, fit_prints}
use Rattle.format_survey_print.specs.Print.{survey_of_lists, survey_text}
use Rattle.format_survey_print.specs.Laws.Print.{seconds_answer, seconds_out, weights_answer, weights_out, others_answer, others_out, whole_answer, whole_out}
use Rattle.format_survey_print.proofs.print_survey.Goals as goal

-- 2: the second ends
pub returns-then-firsts-seconds : goal.returns-then-firsts-seconds
returns-then-firsts-seconds c =
    let a = c.args in
    let s = survey_of_lists a.groups.now a.firsts.now a.seconds.now a.weights.now a.owners.now a.others.now in
    record { value = seconds_answer s a.out.now c.if-firsts-seconds.true; out_value = seconds_out s a.out.now c.if-firsts-seconds.true }

-- 2: the weights
pub returns-then-firsts-weights : goal.returns-then-firsts-weights
returns-then-firsts-weights c =
    let a = c.args in
    let s = survey_of_lists a.groups.now a.firsts.now a.seconds.now a.weights.now a.owners.now a.others.now in
    let one = c.if-firsts-seconds.false in
    record { value = weights_answer s a.out.now one c.if-firsts-weights.true; out_value = weights_out s a.out.now one c.if-firsts-weights.true }

-- 2: the groups of the pairs
pub returns-then-owners-others : goal.returns-then-owners-others
returns-then-owners-others c =
    let a = c.args in
    let s = survey_of_lists a.groups.now a.firsts.now a.seconds.now a.weights.now a.owners.now a.others.now in
    let one = c.if-firsts-seconds.false in
    let two = c.if-firsts-weights.false in
    record { value = others_answer s a.out.now one two c.if-owners-others.true; out_value = others_out s a.out.now one two c.if-owners-others.true }

-- 7: the buffer is short
pub returns-then-out-need : goal.returns-then-out-need
returns-then-out-need c =
    let a = c.args in
    let s = survey_of_lists a.groups.now a.firsts.now a.seconds.now a.weights.now a.owners.now a.others.now in
    let small : length a.out.now < farthest = omega arith in
    let p = short_prints (survey_text s) a.out.now small c.put_survey-need.ensures c.if-out-need.true in
    let one = c.if-firsts-seconds.false in
    let two = c.if-firsts-weights.false in
    let three = c.if-owners-others.false in
    record { value = p.answers ∙ whole_answer s a.out.now one two three; out_value = p.leaves ∙ whole_out s a.out.now one two three }

-- printed
pub returns : goal.returns
returns c =
    let a = c.args in
    let s = survey_of_lists a.groups.now a.firsts.now a.seconds.now a.weights.now a.owners.now a.others.now in
    let small : length a.out.now < farthest = omega (arith, c.before.before.before.before.before.before.before.before.before.before.before.before.before.before.before.before.before.before.before.well_formed.1.1.1.1.1.1.0) in
    let p = fit_prints (survey_text s) a.out.now small c.put_survey-need.ensures c.if-out-need.false c.put_survey.ensures in
    let one = c.if-firsts-seconds.false in
    let two = c.if-firsts-weights.false in
    let three = c.if-owners-others.false in
    record { value = p.answers ∙ whole_answer s a.out.now one two three; out_value = p.leaves ∙ whole_out s a.out.now one two three }
