-- `format_read::digits::digits_end` meets its contract: what is left of the digits ends where all of them end.
use native.Mathlib.Omega.{arith}
use Prim.Native.Nat.{◌-◌}
use mathlib.Core.Path.{◌≡◌, ◌∙◌, sym, ap}
use Rattle.format_read.specs.Number.{class_of, is_digit}
use Rattle.format_read.proofs.Laws.Byte.{digit_inside}
use Rattle.format_read.proofs.Laws.Number.{digits_more, digits_stop, digits_end_zero}
use Rattle.format_read.proofs.digits.digits_end.Goals as goal

pub returns-then-not-is_digit : goal.returns-then-not-is_digit
returns-then-not-is_digit c =
    let a = c.args in
    let d = c.is_digit.ensures ∙ ap is_digit (c.class_of.ensures ∙ ap class_of c.at.ensures) in
    sym (digits_stop a.text.now a.limit c.loop.counter c.loop.end (sym d ∙ c.if-not-is_digit.true)) ∙ c.loop.invariant

pub overflow_add-end : goal.overflow_add-end
overflow_add-end c =
    let d = c.is_digit.ensures ∙ ap is_digit (c.class_of.ensures ∙ ap class_of c.at.ensures) in
    omega (arith, digit_inside c.args.text.now c.loop.end (sym d ∙ c.if-not-is_digit.false))

pub loop-preserved : goal.loop-preserved
loop-preserved c =
    let a = c.args in
    let l = c.loop in
    let d = c.is_digit.ensures ∙ ap is_digit (c.class_of.ensures ∙ ap class_of c.at.ensures) in
    let more = digits_more a.text.now a.limit l.counter l.end c.loop-test.true (sym d ∙ c.if-not-is_digit.false) in
    sym more ∙ l.invariant

pub returns : goal.returns
returns c =
    let k : c.args.limit - c.loop.counter ≡ 0 = omega arith in
    digits_end_zero c.args.text.now c.loop.end k ∙ c.loop.invariant
