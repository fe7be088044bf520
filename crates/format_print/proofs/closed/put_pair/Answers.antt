-- `put_pair`: two numbers.
use Prim.Native.Nat.{◌≤◌}
use native.Mathlib.Omega.{arith}
use lib.ListN.{length}
use Rattle.format_write.specs.Wrote.{farthest}
use Rattle.format_write.proofs.Laws.Wrote.{wrote_then}
use Rattle.format_print.specs.RowText.{pair_text}
use Rattle.format_print.proofs.closed.put_pair.Goals as goal

pub returns : goal.returns
unfolding pair_text
returns c =
    let small : length c.args.out.now ≤ farthest = omega arith in
    wrote_then small c.put_field-next.ensures c.put_field.ensures
