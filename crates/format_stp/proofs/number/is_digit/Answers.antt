-- `format_stp::number::is_digit` meets its contract: the digits are two classes of bytes.
use mathlib.Core.Path.{◌∙◌, sym}
use Rattle.format_stp.proofs.Laws.NumberTurn.{digit_zero, digit_other}
use Rattle.format_stp.proofs.number.is_digit.Goals as goal

pub returns-then-is_class : goal.returns-then-is_class
returns-then-is_class c =
    let a = c.args in
    sym (digit_zero a.text.now a.at (sym c.is_class.ensures ∙ c.if-is_class.true))

pub returns : goal.returns
returns c =
    let a = c.args in
    c.is_class-2.ensures ∙ digit_other a.text.now a.at (sym c.is_class.ensures ∙ c.if-is_class.false)
