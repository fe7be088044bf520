-- `put_at`: the key, the three numbers with commas between, the newline.
use Prim.Native.Nat.{◌≤◌}
use native.Mathlib.Omega.{arith}
use lib.ListN.{length}
use Rattle.format_write.specs.Wrote.{farthest}
use Rattle.format_write.proofs.Laws.Wrote.{wrote_then, wrote_as}
use Rattle.season_rule.specs.Text.{far_key}
use Rattle.season_core.specs.Laws.Lines.{triple_line}
use Rattle.season_core.proofs.print.put_at.Goals as goal

pub returns : goal.returns
unfolding far_key
returns c =
    let a = c.args in
    let small : length a.out.now ≤ farthest = omega arith in
    wrote_as (wrote_then small (wrote_then small (wrote_then small (wrote_then small (wrote_then small (wrote_then small c.put_bytes-next.ensures c.put_number-next.ensures) c.put-next.ensures) c.put_number-next-2.ensures) c.put-next-2.ensures) c.put_number-next-3.ensures) c.put.ensures) (triple_line far_key a.position a.twice a.bound)
