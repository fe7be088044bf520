-- `put_field`: the number and the byte behind it.
use Prim.Native.Nat.{◌≤◌}
use native.Mathlib.Omega.{arith}
use lib.ListN.{length}
use Rattle.format_write.specs.Wrote.{farthest}
use Rattle.format_write.proofs.Laws.Wrote.{wrote_then}
use Rattle.format_read.specs.Number.{number_text}
use Rattle.format_print.proofs.closed.put_field.Goals as goal

pub returns : goal.returns
unfolding number_text
returns c =
    let small : length c.args.out.now ≤ farthest = omega arith in
    wrote_then small c.put_number-next.ensures c.put.ensures
