-- `format_stp::head::shown_by` meets its contract, by the letters of END.
use mathlib.Core.Path.{◌∙◌, sym}
use Rattle.format_stp.proofs.Laws.HeadTurn.{shown_line, shown_one, shown_two, shown_three, shown_other}
use Rattle.format_stp.proofs.head.shown_by.Goals as goal

pub returns-then-b-eq10 : goal.returns-then-b-eq10
returns-then-b-eq10 c = let a = c.args in sym (shown_line a.seen a.b c.if-b-eq10.true)

pub returns-then-is_pair : goal.returns-then-is_pair
returns-then-is_pair c = let a = c.args in sym (shown_one a.seen a.b c.if-b-eq10.false (sym c.is_pair.ensures ∙ c.if-is_pair.true))

pub returns-then-is_pair-2 : goal.returns-then-is_pair-2
returns-then-is_pair-2 c = let a = c.args in sym (shown_two a.seen a.b c.if-b-eq10.false (sym c.is_pair.ensures ∙ c.if-is_pair.false) (sym c.is_pair-2.ensures ∙ c.if-is_pair-2.true))

pub returns-then-is_pair-3 : goal.returns-then-is_pair-3
returns-then-is_pair-3 c =
    let a = c.args in
    sym (shown_three a.seen a.b c.if-b-eq10.false (sym c.is_pair.ensures ∙ c.if-is_pair.false) (sym c.is_pair-2.ensures ∙ c.if-is_pair-2.false) (sym c.is_pair-3.ensures ∙ c.if-is_pair-3.true))

pub returns : goal.returns
returns c =
    let a = c.args in
    sym (shown_other a.seen a.b c.if-b-eq10.false (sym c.is_pair.ensures ∙ c.if-is_pair.false) (sym c.is_pair-2.ensures ∙ c.if-is_pair-2.false) (sym c.is_pair-3.ensures ∙ c.if-is_pair-3.false))
