-- `put_text` meets its contract: the price, then the lines.
use Prim.Native.Nat.{◌≤◌}
use native.Mathlib.Omega.{arith}
use lib.ListN.{length}
use Rattle.format_write.specs.Key.{cost_key}
use Rattle.format_write.specs.Wrote.{farthest}
use Rattle.format_write.proofs.Laws.Wrote.{wrote_then}
use Rattle.text_winter.specs.Output.{copies_text}
use Rattle.text_winter.proofs.print.put_text.Goals as goal

pub returns : goal.returns
unfolding copies_text cost_key
returns c =
    let small : length c.args.out.now ≤ farthest = omega arith in
    wrote_then small c.put_line-next.ensures c.put_lines.ensures
