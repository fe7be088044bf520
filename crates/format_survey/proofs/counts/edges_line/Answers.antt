-- `format_survey::counts::edges_line` meets its contract: each test decides a case of the definition.
use Rattle.format_survey.specs.Line.{count_line, edges_test}
use Rattle.format_read.specs.Answer.{number_step}
use Rattle.format_read.proofs.Laws.NumberStep.{refusal_stays, check_refused, check_fine}
use Rattle.format_survey.proofs.Laws.Tests.{edges_many, edges_first, edges_second, edges_weight, edges_fine}
use Rattle.format_survey.proofs.counts.edges_line.Goals as goal

pub returns-in_default : goal.returns-in_default
unfolding count_line
returns-in_default c = refusal_stays _ c.number_line-step.ensures c.in_default.is

-- 3: too many edges
pub returns-then-count-gt-MAX_EDGES : goal.returns-then-count-gt-MAX_EDGES
unfolding count_line number_step
returns-then-count-gt-MAX_EDGES c =
    let a = c.args in
    let n = c.in-Value.value in
    check_refused (edges_test a.firsts a.seconds a.weights) c.number_line-step.ensures c.in-Value.is
    (edges_many a.firsts a.seconds a.weights n c.if-count-gt-MAX_EDGES.true)

-- 7: the buffer of first ends is short
pub returns-then-firsts-count : goal.returns-then-firsts-count
unfolding count_line number_step
returns-then-firsts-count c =
    let a = c.args in
    let n = c.in-Value.value in
    check_refused (edges_test a.firsts a.seconds a.weights) c.number_line-step.ensures c.in-Value.is
    (edges_first a.firsts a.seconds a.weights n c.if-count-gt-MAX_EDGES.false c.if-firsts-count.true)

-- 7: the buffer of second ends is short
pub returns-then-seconds-count : goal.returns-then-seconds-count
unfolding count_line number_step
returns-then-seconds-count c =
    let a = c.args in
    let n = c.in-Value.value in
    check_refused (edges_test a.firsts a.seconds a.weights) c.number_line-step.ensures c.in-Value.is
    (edges_second a.firsts a.seconds a.weights n c.if-count-gt-MAX_EDGES.false c.if-firsts-count.false c.if-seconds-count.true)

-- 7: the weight buffer is short
pub returns-then-weights-count : goal.returns-then-weights-count
unfolding count_line number_step
returns-then-weights-count c =
    let a = c.args in
    let n = c.in-Value.value in
    check_refused (edges_test a.firsts a.seconds a.weights) c.number_line-step.ensures c.in-Value.is
    (edges_weight a.firsts a.seconds a.weights n c.if-count-gt-MAX_EDGES.false c.if-firsts-count.false c.if-seconds-count.false c.if-weights-count.true)

-- the count passes
pub returns : goal.returns
unfolding count_line number_step
returns c =
    let a = c.args in
    let n = c.in-Value.value in
    check_fine (edges_test a.firsts a.seconds a.weights) c.number_line-step.ensures c.in-Value.is
    (edges_fine a.firsts a.seconds a.weights n c.if-count-gt-MAX_EDGES.false c.if-firsts-count.false c.if-seconds-count.false c.if-weights-count.false)
