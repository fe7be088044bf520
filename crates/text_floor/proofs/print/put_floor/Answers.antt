-- `put_floor`: three lines.
use native.Mathlib.Omega.{arith}
use lib.ListN.{length}
use Rattle.format_write.specs.Wrote.{farthest}
use Rattle.format_write.proofs.Laws.Wrote.{wrote_then}
use Prim.Native.Nat.{◌≤◌}
use Rattle.format_write.specs.Key.{cost_key}
use Rattle.text_floor.specs.Output.{floor_key, gap_key}
use Rattle.text_floor.proofs.print.put_floor.Goals as goal

pub returns : goal.returns
unfolding floor_key cost_key gap_key
returns c =
    let small : length c.args.out.now ≤ farthest = omega arith in
    wrote_then small (wrote_then small c.put_line-next.ensures c.put_line-next-2.ensures) c.put_line.ensures
