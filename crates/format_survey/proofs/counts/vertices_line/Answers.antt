-- `format_survey::counts::vertices_line` meets its contract: each test decides a case of the definition.
use Rattle.format_survey.specs.Line.{count_line, vertices_test}
use Rattle.format_read.specs.Answer.{number_step}
use Rattle.format_read.proofs.Laws.NumberStep.{refusal_stays, check_refused, check_fine}
use Rattle.format_survey.proofs.Laws.Tests.{vertices_none, vertices_many, vertices_short, vertices_fine}
use Rattle.format_survey.proofs.counts.vertices_line.Goals as goal

pub returns-in_default : goal.returns-in_default
unfolding count_line
returns-in_default c = refusal_stays _ c.number_line-line.ensures c.in_default.is

-- 1: no vertex
pub returns-then-count-eq0 : goal.returns-then-count-eq0
unfolding count_line number_step
returns-then-count-eq0 c =
    let a = c.args in
    let n = c.in-Value.value in
    check_refused (vertices_test a.lent) c.number_line-line.ensures c.in-Value.is
    (vertices_none a.lent n c.if-count-eq0.true)

-- 1: too many vertices
pub returns-then-count-gt-MAX_VERTICES : goal.returns-then-count-gt-MAX_VERTICES
unfolding count_line number_step
returns-then-count-gt-MAX_VERTICES c =
    let a = c.args in
    let n = c.in-Value.value in
    check_refused (vertices_test a.lent) c.number_line-line.ensures c.in-Value.is
    (vertices_many a.lent n c.if-count-eq0.false c.if-count-gt-MAX_VERTICES.true)

-- 7: the group buffer is short
pub returns-then-lent-count : goal.returns-then-lent-count
unfolding count_line number_step
returns-then-lent-count c =
    let a = c.args in
    let n = c.in-Value.value in
    check_refused (vertices_test a.lent) c.number_line-line.ensures c.in-Value.is
    (vertices_short a.lent n c.if-count-eq0.false c.if-count-gt-MAX_VERTICES.false c.if-lent-count.true)

-- the count passes
pub returns : goal.returns
unfolding count_line number_step
returns c =
    let a = c.args in
    let n = c.in-Value.value in
    check_fine (vertices_test a.lent) c.number_line-line.ensures c.in-Value.is
    (vertices_fine a.lent n c.if-count-eq0.false c.if-count-gt-MAX_VERTICES.false c.if-lent-count.false)
