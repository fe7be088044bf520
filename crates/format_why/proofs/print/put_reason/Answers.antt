-- `put_reason`: the track, the mark and what the mark says.
use Prim.Native.Nat.{◌≤◌}
use native.Mathlib.Omega.{arith}
use lib.ListN.{length}
use Rattle.format_write.specs.Wrote.{farthest}
use Rattle.format_write.proofs.Laws.Wrote.{wrote_then}
use Rattle.format_write.specs.Key.{track_key, mark_key}
use Rattle.format_why.specs.ReasonText.{reason_text}
use Rattle.format_why.proofs.print.put_reason.Goals as goal

pub returns : goal.returns
unfolding reason_text track_key mark_key
returns c =
    let small : length c.args.out.now ≤ farthest = omega arith in
    wrote_then small (wrote_then small c.put_line-next.ensures c.put_line-next-2.ensures) c.put_mark.ensures
