-- `format_stp::number::free_number` meets its contract: a first digit with which a free number can go on, and what follows it.
use native.Mathlib.Omega.{arith}
use Prim.Native.Nat.{ℕ, ◌+◌, min}
use mathlib.Core.Bool.{true}
use mathlib.Core.Path.{◌≡◌, ◌∙◌, sym, ap}
use lib.ListN.{get_or}
use Rattle.base_limits.specs.Limits.{max_digits}
use Rattle.format_read.specs.Answer.{number_step}
use Rattle.format_stp.specs.StpNumber.{is_free, stop_byte, with_digit, goes_on, more_after, digits_after}
use Rattle.format_stp.proofs.Laws.NumberTurn.{goes_facts, goes_inside, first_fits, number_on, number_none}
use Rattle.format_stp.proofs.number.free_number.Goals as goal

pub overflow_add-at : goal.overflow_add-at
overflow_add-at c =
    let a = c.args in
    let g = sym c.goes_on.ensures ∙ c.if-goes_on.true in
    omega (arith, goes_inside (is_free a.groups.now a.low a.high) a.high _ 0 a.text.now a.cursor.at g)

pub digits_after-requires : goal.digits_after-requires
digits_after-requires c =
    let a = c.args in
    let g = sym c.goes_on.ensures ∙ c.if-goes_on.true in
    let f = goes_facts (is_free a.groups.now a.low a.high) a.high _ 0 (get_or a.text.now a.cursor.at 0) g in
    rw (c.with_digit.ensures, c.more_after-more.ensures, c.at-b.ensures) (first_fits a.limit (get_or a.text.now a.cursor.at 0) f.0 f.1)

pub returns-then-goes_on : goal.returns-then-goes_on
returns-then-goes_on c =
    let a = c.args in
    let free = is_free a.groups.now a.low a.high in
    let stop = stop_byte a.spaced in
    let b = get_or a.text.now a.cursor.at 0 in
    let m = c.more_after-more.ensures ∙ ap (λ (k : ℕ). more_after (min a.limit max_digits) k) c.at-b.ensures in
    let x = c.with_digit.ensures ∙ ap (λ (k : ℕ). with_digit 0 k) c.at-b.ensures in
    let g : goes_on free a.high (more_after (min a.limit max_digits) b) 0 b ≡ true =
    ap (λ (k : ℕ). goes_on free a.high k 0 b) (sym m) ∙ sym c.goes_on.ensures ∙ c.if-goes_on.true in
    c.digits_after.ensures
    ∙ (λ i. digits_after free a.high stop (m i) (x i) a.text.now (a.cursor.at + 1))
    ∙ sym (number_on free a.high a.spaced 0 a.text.now a.cursor.at (min a.limit max_digits) g)

pub returns : goal.returns
unfolding number_step
returns c =
    let a = c.args in
    let free = is_free a.groups.now a.low a.high in
    let b = get_or a.text.now a.cursor.at 0 in
    let m = c.more_after-more.ensures ∙ ap (λ (k : ℕ). more_after (min a.limit max_digits) k) c.at-b.ensures in
    sym
    (number_none free a.high a.spaced 0 a.text.now a.cursor.at (min a.limit max_digits)
    (ap (λ (k : ℕ). goes_on free a.high k 0 b) (sym m) ∙ sym c.goes_on.ensures ∙ c.if-goes_on.false))
