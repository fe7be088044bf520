-- `put_line`: the key, the number and the newline.
use native.Mathlib.Omega.{arith}
use lib.ListN.{length}
use Rattle.format_write.specs.Wrote.{farthest}
use Rattle.format_write.proofs.Laws.Wrote.{wrote_then}
use Prim.Native.Nat.{◌≤◌}
use Rattle.format_write.specs.Text.{line_of}
use Rattle.format_write.proofs.put_line.Goals as goal

pub returns : goal.returns
unfolding line_of
returns c =
    let small : length c.args.out.now ≤ farthest = omega arith in
    (wrote_then small (wrote_then small c.put_bytes-next.ensures c.put_number-next.ensures) c.put.ensures)
