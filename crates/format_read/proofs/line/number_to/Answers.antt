-- `format_read::number_to` meets its contract: a refusal stays, and a value goes on to its end.
use native.Mathlib.Omega.{arith}
use mathlib.Core.Path.{sym, ◌∙◌}
use Rattle.format_read.specs.Number.{number_to, stop_of}
use Rattle.format_read.proofs.Laws.Bytes.{byte_inside, stop_found, stop_refused}
use Rattle.format_read.specs.Answer.{number_step}
use Rattle.format_read.proofs.Laws.NumberStep.{refusal_stays, value_goes}
use Rattle.format_read.proofs.line.number_to.Goals as goal

pub returns-in_default : goal.returns-in_default
unfolding number_to
returns-in_default c = refusal_stays _ c.number_at-step.ensures c.in_default.is

pub overflow_add-result : goal.overflow_add-result
overflow_add-result c =
    let a = c.args in
    let p = c.in-Value.next.at in
    omega (arith, (byte_inside a.text.now p (stop_of a.comma) (sym c.ends.ensures ∙ c.if-ends.true)).0)

pub returns-then-ends : goal.returns-then-ends
unfolding number_to number_step
returns-then-ends c =
    let a = c.args in
    sym (value_goes _ c.number_at-step.ensures c.in-Value.is
    ∙ stop_found a.text.now (stop_of a.comma) c.in-Value.value c.in-Value.next.at (sym c.ends.ensures ∙ c.if-ends.true))

pub returns : goal.returns
unfolding number_to number_step
returns c =
    let a = c.args in
    sym (value_goes _ c.number_at-step.ensures c.in-Value.is
    ∙ stop_refused a.text.now (stop_of a.comma) c.in-Value.value c.in-Value.next.at (sym c.ends.ensures ∙ c.if-ends.false))
