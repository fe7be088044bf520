-- `put_line_of`: the numbers are read, and the row is written.
use mathlib.Core.Path.{◌∙◌}
use Rattle.format_write.proofs.Laws.Wrote.{wrote_as}
use Rattle.format_print.specs.Laws.Row.{row_read}
use Rattle.format_print.proofs.closed.put_line_of.Goals as goal

pub returns : goal.returns
returns c =
    let a = c.args in
    wrote_as c.put_row.ensures
    (row_read a.tracks.now a.res.now a.i (c.from-track.ensures ∙ c.at.ensures) c.at-number.ensures c.at-place.ensures
    c.at-cost.ensures c.at-bound.ensures)
