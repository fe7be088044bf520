-- `put_plan`: the counts, the kept tracks and the moats.
use Prim.Native.Nat.{◌≤◌}
use native.Mathlib.Omega.{arith}
use lib.ListN.{length}
use Rattle.format_write.specs.Wrote.{farthest}
use Rattle.format_write.proofs.Laws.Wrote.{wrote_then}
use Rattle.format_write.specs.Text.{plan_text}
use Rattle.format_print.proofs.plan.put_plan.Goals as goal

pub returns : goal.returns
unfolding plan_text
returns c =
    let small : length c.args.out.now ≤ farthest = omega arith in
    wrote_then small (wrote_then small c.put_counts-next.ensures c.put_marks-next.ensures) c.put_duals.ensures
