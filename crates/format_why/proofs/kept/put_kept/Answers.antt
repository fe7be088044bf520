-- `put_kept`: three lines and the route.
use Prim.Native.Nat.{◌≤◌}
use native.Mathlib.Omega.{arith}
use lib.ListN.{length}
use Rattle.format_write.specs.Wrote.{farthest}
use Rattle.format_write.proofs.Laws.Wrote.{wrote_then}
use Rattle.format_write.specs.Key.{group_key, from_key, to_key}
use Rattle.format_why.specs.ReasonText.{kept_text}
use Rattle.format_why.proofs.kept.put_kept.Goals as goal

pub returns : goal.returns
unfolding kept_text group_key from_key to_key
returns c =
    let small : length c.args.out.now ≤ farthest = omega arith in
    wrote_then small (wrote_then small (wrote_then small c.put_line-next.ensures c.put_line-next-2.ensures) c.put_line-next-3.ensures) c.put_route.ensures
