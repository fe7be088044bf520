-- `row_byte` meets its contract: an end, the other end, the price.
use mathlib.Core.Path.{sym, ◌∙◌}
use Rattle.text_table.specs.Laws.TrackTable.{row_first, row_second, row_weight}
use Rattle.text_table.proofs.row.row_byte.Goals as goal

pub returns-then-j-lt-NUMBER_BYTES : goal.returns-then-j-lt-NUMBER_BYTES
returns-then-j-lt-NUMBER_BYTES c =
    let a = c.args in
    c.low_byte.ensures ∙ sym (row_first a.first a.second a.weight a.j c.if-j-lt-NUMBER_BYTES.true)

pub returns-then-j : goal.returns-then-j
returns-then-j c =
    let a = c.args in
    c.low_byte-then-j.ensures ∙ sym (row_second a.first a.second a.weight a.j c.if-j-lt-NUMBER_BYTES.false c.if-j.true)

pub returns : goal.returns
returns c =
    let a = c.args in
    c.low_byte-2.ensures ∙ sym (row_weight a.first a.second a.weight a.j c.if-j.false)
