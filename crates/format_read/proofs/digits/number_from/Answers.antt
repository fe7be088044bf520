-- `format_read::digits::number_from` meets its contract: without digits it is refused, and what the digits write fits.
use native.Mathlib.Omega.{arith}
use Prim.Native.Nat.{ℕ, min}
use mathlib.Core.Path.{◌≡◌, sym, ap, ◌∙◌}
use borrow.Author.Tests.{eq-eqb, ne_eqb}
use lib.ListN.{length}
use Rattle.base_limits.specs.Limits.{max_digits}
use Rattle.format_read.specs.Number.{numeral_at, number_at}
use Rattle.format_read.specs.Answer.{number_step}
use Rattle.format_read.proofs.Laws.Number.{numeral_width}
use Rattle.format_read.proofs.digits.number_from.Goals as goal

pub returns-then-width-eq0 : goal.returns-then-width-eq0
unfolding number_step number_at
returns-then-width-eq0 c =
    let a = c.args in
    let e = c.digits-part.ensures ∙ ap (λ (k : ℕ). numeral_at k a.text.now a.at) c.min.ensures in
    sym (simp (eq-eqb (length (numeral_at (min a.limit max_digits) a.text.now a.at)) 0 (sym (ap length e) ∙ c.if-width-eq0.true)))

pub value-requires : goal.value-requires
value-requires c =
    let a = c.args in
    let w = (numeral_width a.text.now c.min.result a.at).most in
    omega (arith, ap length c.digits-part.ensures, c.min.ensures)

pub overflow_add-result : goal.overflow_add-result
overflow_add-result c =
    let a = c.args in
    let e = ap length c.digits-part.ensures in
    let w = (numeral_width a.text.now c.min.result a.at).inside (omega arith) in
    omega arith

pub returns : goal.returns
unfolding number_step number_at
returns c =
    let a = c.args in
    let e = c.digits-part.ensures ∙ ap (λ (k : ℕ). numeral_at k a.text.now a.at) c.min.ensures in
    let ne : length (numeral_at (min a.limit max_digits) a.text.now a.at) ≡ 0 → ⊥ = λ z. c.if-width-eq0.false (ap length e ∙ z) in
    rw (c.value.ensures, e) (sym (simp (ne_eqb _ 0 ne)))
