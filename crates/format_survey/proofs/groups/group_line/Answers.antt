-- `format_survey::groups::group_line` meets its contract: the test decides the case of the definition.
use Rattle.format_survey.specs.Line.{group_line, group_test}
use Rattle.format_read.specs.Answer.{number_step}
use Rattle.format_read.proofs.Laws.NumberStep.{refusal_stays, check_refused, check_fine}
use Rattle.format_survey.proofs.Laws.Tests.{group_high, group_line_fine}
use Rattle.format_survey.proofs.groups.group_line.Goals as goal

pub returns-in_default : goal.returns-in_default
unfolding group_line
returns-in_default c = refusal_stays _ c.number_line-step.ensures c.in_default.is

-- 17: no group number
pub returns-then-group-ge-GROUP_NUMBERS : goal.returns-then-group-ge-GROUP_NUMBERS
unfolding group_line number_step
returns-then-group-ge-GROUP_NUMBERS c =
    let a = c.args in
    let n = c.in-Value.value in
    check_refused (group_test a.vertex) c.number_line-step.ensures c.in-Value.is
    (group_high a.vertex n c.if-group-ge-GROUP_NUMBERS.true)

-- the group passes
pub returns : goal.returns
unfolding group_line number_step
returns c =
    let a = c.args in
    let n = c.in-Value.value in
    check_fine (group_test a.vertex) c.number_line-step.ensures c.in-Value.is
    (group_line_fine a.vertex n c.if-group-ge-GROUP_NUMBERS.false)
