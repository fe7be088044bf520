-- `put_passed`: `passed` and three lines.
use Prim.Native.Nat.{◌≤◌}
use native.Mathlib.Omega.{arith}
use lib.ListN.{length}
use Rattle.format_write.specs.Wrote.{farthest}
use Rattle.format_write.proofs.Laws.Wrote.{wrote_then}
use Rattle.format_write.specs.Key.{terminals_key, cost_key, bound_key}
use Rattle.text_verify.specs.Output.{passed_line, passed_text}
use Rattle.text_verify.proofs.findings.put_passed.Goals as goal

pub returns : goal.returns
unfolding passed_text passed_line terminals_key cost_key bound_key
returns c =
    let small : length c.args.out.now ≤ farthest = omega arith in
    wrote_then small
    (wrote_then small (wrote_then small c.put_bytes-next.ensures c.put_line-next.ensures) c.put_line-next-2.ensures)
    c.put_line.ensures
