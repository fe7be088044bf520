-- `put_route`: the key, the tracks and the newline.
use Prim.Native.Nat.{◌≤◌}
use native.Mathlib.Omega.{arith}
use lib.ListN.{length}
use Rattle.format_write.specs.Wrote.{farthest}
use Rattle.format_write.proofs.Laws.Wrote.{wrote_then}
use Rattle.format_write.specs.Key.{route_key}
use Rattle.format_why.specs.ReasonText.{route_line}
use Rattle.format_why.proofs.kept.put_route.Goals as goal

pub returns : goal.returns
unfolding route_line route_key
returns c =
    let small : length c.args.out.now ≤ farthest = omega arith in
    wrote_then small (wrote_then small c.put_bytes-next.ensures c.put_list-next.ensures) c.put.ensures
