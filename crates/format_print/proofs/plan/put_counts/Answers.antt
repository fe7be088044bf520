-- `put_counts`: four lines.
use native.Mathlib.Omega.{arith}
use lib.ListN.{length}
use Rattle.format_write.specs.Wrote.{farthest}
use Rattle.format_write.proofs.Laws.Wrote.{wrote_then}
use Prim.Native.Nat.{◌≤◌}
use Rattle.format_write.specs.Key.{terminals_key, cost_key, bound_key, rounds_key}
use Rattle.format_write.specs.Text.{count_lines}
use Rattle.format_print.proofs.plan.put_counts.Goals as goal

pub returns : goal.returns
unfolding count_lines terminals_key cost_key bound_key rounds_key
returns c =
    let small : length c.args.out.now ≤ farthest = omega arith in
    wrote_then small
    (wrote_then small (wrote_then small c.put_line-next.ensures c.put_line-next-2.ensures) c.put_line-next-3.ensures)
    c.put_line.ensures
