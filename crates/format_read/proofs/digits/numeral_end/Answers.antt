-- `format_read::digits::numeral_end` meets its contract: the first byte decides.
use native.Mathlib.Omega.{arith}
use mathlib.Core.Path.{sym, ◌∙◌}
use Rattle.format_read.specs.Number.{numeral_end}
use Rattle.format_read.proofs.Laws.Byte.{is_zero, class_inside}
use Rattle.format_read.proofs.digits.numeral_end.Goals as goal

pub overflow_add-result : goal.overflow_add-result
overflow_add-result c =
    let a = c.args in
    omega (arith, class_inside a.text.now a.at _ (sym c.class_from.ensures ∙ c.if-class_from.true))

pub returns-then-class_from : goal.returns-then-class_from
unfolding numeral_end
returns-then-class_from c =
    let a = c.args in
    simp (sym (is_zero a.text.now a.at) ∙ sym c.class_from.ensures ∙ c.if-class_from.true)

pub returns : goal.returns
unfolding numeral_end
returns c =
    let a = c.args in
    c.digits_end.ensures ∙ sym (simp (sym (is_zero a.text.now a.at) ∙ sym c.class_from.ensures ∙ c.if-class_from.false))
