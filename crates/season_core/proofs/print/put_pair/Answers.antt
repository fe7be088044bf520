-- `put_pair`: the key, the two numbers with the comma between, the newline.
use Prim.Native.Nat.{◌≤◌}
use native.Mathlib.Omega.{arith}
use lib.ListN.{length}
use Rattle.format_write.specs.Wrote.{farthest}
use Rattle.format_write.proofs.Laws.Wrote.{wrote_then, wrote_as}
use Rattle.season_core.specs.Laws.Lines.{pair_line}
use Rattle.season_core.proofs.print.put_pair.Goals as goal

pub returns : goal.returns
returns c =
    let a = c.args in
    let small : length a.out.now ≤ farthest = omega arith in
    wrote_as (wrote_then small (wrote_then small (wrote_then small (wrote_then small c.put_bytes-next.ensures c.put_number-next.ensures) c.put-next.ensures) c.put_number-next-2.ensures) c.put.ensures) (pair_line a.key.now a.x a.y)
