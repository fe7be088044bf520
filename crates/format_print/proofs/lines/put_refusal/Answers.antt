-- `put_refusal`: two lines.
use Prim.Native.Nat.{◌≤◌}
use native.Mathlib.Omega.{arith}
use lib.ListN.{length}
use Rattle.format_write.specs.Wrote.{farthest}
use Rattle.format_write.proofs.Laws.Wrote.{wrote_then}
use Rattle.format_write.specs.Key.{refused_key, place_key}
use Rattle.format_write.specs.Text.{refusal_text}
use Rattle.format_print.proofs.lines.put_refusal.Goals as goal

pub returns : goal.returns
unfolding refusal_text refused_key place_key
returns c =
    let small : length c.args.out.now ≤ farthest = omega arith in
    wrote_then small c.put_line-next.ensures c.put_line.ensures
