-- `format_plan::keep::keep_line` meets its contract: the tests decide the case of the definition.
use Rattle.format_write.specs.Key.{kept_key}
use Rattle.format_read.specs.Answer.{number_step}
use Rattle.format_read.proofs.Laws.NumberStep.{refusal_stays, check_refused, check_fine}
use Rattle.format_plan.specs.Lines.{keep_line, kept_test}
use Rattle.format_plan.proofs.Laws.Tests.{kept_low, kept_high, kept_fine}
use Rattle.format_plan.proofs.keep.keep_line.Goals as goal

pub returns-in_default : goal.returns-in_default
unfolding keep_line kept_key
returns-in_default c = refusal_stays _ c.number_line-step.ensures c.in_default.is

-- 26: the edge does not rise
pub returns-then-value-low : goal.returns-then-value-low
unfolding keep_line kept_key number_step
returns-then-value-low c =
    let a = c.args in
    check_refused (kept_test a.edges a.low a.i) c.number_line-step.ensures c.in-Value.is
    (kept_low a.edges a.low a.i c.in-Value.value c.if-value-low.true)

-- 26: no such edge
pub returns-then-edges-value : goal.returns-then-edges-value
unfolding keep_line kept_key number_step
returns-then-edges-value c =
    let a = c.args in
    check_refused (kept_test a.edges a.low a.i) c.number_line-step.ensures c.in-Value.is
    (kept_high a.edges a.low a.i c.in-Value.value c.if-value-low.false c.if-edges-value.true)

-- the edge passes
pub returns : goal.returns
unfolding keep_line kept_key number_step
returns c =
    let a = c.args in
    check_fine (kept_test a.edges a.low a.i) c.number_line-step.ensures c.in-Value.is
    (kept_fine a.edges a.low a.i c.in-Value.value c.if-value-low.false c.if-edges-value.false)
