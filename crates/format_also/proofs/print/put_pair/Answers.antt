-- `format_also::print::put_pair` meets its contract: the key, and the two numbers with the bytes that end them.
use Prim.Native.Nat.{◌≤◌}
use native.Mathlib.Omega.{arith}
use lib.ListN.{length}
use Rattle.format_write.specs.Wrote.{farthest}
use Rattle.format_write.proofs.Laws.Wrote.{wrote_then, wrote_as}
use Rattle.format_also.specs.Laws.Render.{pair_parts}
use Rattle.format_also.proofs.print.put_pair.Goals as goal

pub returns : goal.returns
returns c =
    let a = c.args in
    let small : length a.out.now ≤ farthest = omega arith in
    wrote_as
    (wrote_then small
    (wrote_then small (wrote_then small (wrote_then small c.put_bytes-next.ensures c.put_number-next.ensures) c.put-next.ensures) c.put_number-next-2.ensures)
    c.put.ensures)
    (pair_parts a.owner a.other)
