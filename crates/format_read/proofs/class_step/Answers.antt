-- `format_read::class_step` meets its contract: a byte of the class is taken, and another is refused.
use native.Mathlib.Omega.{arith}
use mathlib.Core.Path.{sym, ◌∙◌}
use Rattle.format_read.specs.Number.{class_step}
use Rattle.format_read.specs.Answer.{number_step}
use Rattle.format_read.proofs.Laws.Byte.{class_inside}
use Rattle.format_read.proofs.class_step.Goals as goal

pub overflow_add-result : goal.overflow_add-result
overflow_add-result c =
    let a = c.args in
    omega (arith, class_inside a.text.now a.cursor.at a.kind (sym c.is_class.ensures ∙ c.if-is_class.true))

pub returns-then-is_class : goal.returns-then-is_class
unfolding class_step number_step
returns-then-is_class c = sym (simp (sym c.is_class.ensures ∙ c.if-is_class.true))

pub returns : goal.returns
unfolding class_step number_step
returns c = sym (simp (sym c.is_class.ensures ∙ c.if-is_class.false))
