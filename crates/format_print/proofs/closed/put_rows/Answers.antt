-- `put_rows`: what is written so far are the lines of the first i tracks.
use Prim.Native.Nat.{◌≤◌}
use native.Mathlib.Omega.{arith}
use mathlib.Core.Path.{◌≡◌, ap, sym}
use lib.ListN.{length}
use Rattle.format_write.specs.Wrote.{farthest}
use Rattle.format_write.specs.Text.{text_below}
use Rattle.format_write.proofs.Laws.Wrote.{wrote_none, wrote_then, wrote_as}
use Rattle.format_write.proofs.Laws.Text.{text_none, text_next}
use Rattle.format_print.specs.RowText.{row_line, row_lines}
use Rattle.format_print.proofs.closed.put_rows.Goals as goal

pub loop-i-init : goal.loop-i-init
loop-i-init c =
    let a = c.args in
    wrote_as (wrote_none a.out.now a.at) (sym (text_none _))

pub loop-i-preserved : goal.loop-i-preserved
loop-i-preserved c =
    let a = c.args in
    let small : length a.out.now ≤ farthest = omega arith in
    wrote_as
    (wrote_then small c.loop-i.invariant c.put_line_of-next.ensures)
    (text_next (row_line a.tracks.now a.res.now) c.loop-i.i)

pub returns : goal.returns
unfolding row_lines
returns c =
    let a = c.args in
    let all : c.loop-i.i ≡ length a.tracks.now = omega arith in
    wrote_as c.loop-i.invariant (ap (λ n. text_below n (row_line a.tracks.now a.res.now)) all)
