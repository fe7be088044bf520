-- `put_row`: the key, the track, and by the refusal what follows.
use Prim.Native.Nat.{◌≤◌}
use native.Mathlib.Omega.{arith}
use lib.ListN.{length}
use Rattle.format_write.specs.Wrote.{farthest}
use Rattle.format_write.proofs.Laws.Wrote.{wrote_then, wrote_as}
use Rattle.format_print.specs.RowText.{closed_key, refused_word}
use Rattle.format_print.specs.Laws.Row.{row_planned, row_refused}
use Rattle.format_print.proofs.closed.put_row.Goals as goal

-- refused
pub returns-then-number-gt0 : goal.returns-then-number-gt0
unfolding closed_key refused_word
returns-then-number-gt0 c =
    let a = c.args in
    let small : length a.out.now ≤ farthest = omega arith in
    wrote_as
    (wrote_then small (wrote_then small (wrote_then small c.put_bytes-next.ensures c.put_field-next.ensures) c.put_bytes-next-then-number-gt0.ensures)
    c.put_pair.ensures)
    (row_refused a.track a.number a.place a.cost a.bound c.if-number-gt0.true)

-- planned
pub returns : goal.returns
unfolding closed_key refused_word
returns c =
    let a = c.args in
    let small : length a.out.now ≤ farthest = omega arith in
    wrote_as (wrote_then small (wrote_then small c.put_bytes-next.ensures c.put_field-next.ensures) c.put_pair-2.ensures)
    (row_planned a.track a.number a.place a.cost a.bound (omega (arith, c.if-number-gt0.false)))
