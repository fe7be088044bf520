-- `put_report`: the totals, the refusals and the farthest plan.
use Prim.Native.Nat.{◌≤◌}
use native.Mathlib.Omega.{arith}
use lib.ListN.{length}
use Rattle.format_write.specs.Wrote.{farthest}
use Rattle.format_write.proofs.Laws.Wrote.{wrote_then}
use Rattle.format_write.specs.Key.{cost_key, bound_key}
use Rattle.season_rule.specs.Text.{planned_key, report_text}
use Rattle.season_core.proofs.print.put_report.Goals as goal

pub returns : goal.returns
unfolding report_text planned_key cost_key bound_key
returns c =
    let small : length c.args.out.now ≤ farthest = omega arith in
    wrote_then small (wrote_then small (wrote_then small (wrote_then small c.put_line-next.ensures c.put_line-next-2.ensures) c.put_line-next-3.ensures) c.put_counts-next.ensures) c.put_far.ensures
