-- `format_stp::number::free_end` meets its contract: the number ends there where it is free.
use native.Mathlib.Omega.{arith}
use mathlib.Core.Path.{◌≡◌, ◌∙◌, sym}
use lib.ListN.{get_or}
use Rattle.format_read.proofs.Laws.Bytes.{read_inside}
use Rattle.format_read.specs.Answer.{number_step}
use Rattle.format_stp.specs.StpNumber.{is_free, stop_byte}
use Rattle.format_stp.proofs.Laws.NumberTurn.{stop_some, end_free, end_taken, end_other}
use Rattle.format_stp.proofs.number.free_end.Goals as goal

pub overflow_add-result : goal.overflow_add-result
overflow_add-result c =
    let a = c.args in
    let e : get_or a.text.now a.at 0 ≡ stop_byte a.spaced = sym c.at.ensures ∙ c.if-at-stop_byte.true ∙ c.stop_byte.ensures in
    let s = stop_some a.spaced in
    omega (arith, read_inside a.text.now a.at (omega arith))

pub returns-then-is_free : goal.returns-then-is_free
unfolding number_step
returns-then-is_free c =
    let a = c.args in
    let e : get_or a.text.now a.at 0 ≡ stop_byte a.spaced = sym c.at.ensures ∙ c.if-at-stop_byte.true ∙ c.stop_byte.ensures in
    sym (end_free (is_free a.groups.now a.low a.high) a.high a.spaced a.x a.text.now a.at e (sym c.is_free.ensures ∙ c.if-is_free.true))

pub returns-else-is_free : goal.returns-else-is_free
unfolding number_step
returns-else-is_free c =
    let a = c.args in
    let e : get_or a.text.now a.at 0 ≡ stop_byte a.spaced = sym c.at.ensures ∙ c.if-at-stop_byte.true ∙ c.stop_byte.ensures in
    sym (end_taken (is_free a.groups.now a.low a.high) a.high a.spaced a.x a.text.now a.at e (sym c.is_free.ensures ∙ c.if-is_free.false))

pub returns-else-at-stop_byte : goal.returns-else-at-stop_byte
unfolding number_step
returns-else-at-stop_byte c =
    let a = c.args in
    sym (end_other (is_free a.groups.now a.low a.high) a.high a.spaced a.x a.text.now a.at (λ q. c.if-at-stop_byte.false (c.at.ensures ∙ q ∙ sym c.stop_byte.ensures)))
