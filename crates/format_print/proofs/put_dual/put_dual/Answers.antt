-- `put_dual`: the key, the value, the colon, the members and the newline.
use Prim.Native.Nat.{◌≤◌}
use native.Mathlib.Omega.{arith}
use mathlib.Core.Path.{ap}
use lib.ListN.{length}
use Rattle.format_write.specs.Wrote.{farthest}
use Rattle.format_write.proofs.Laws.Wrote.{wrote_then, wrote_as}
use mathlib.Core.List.{◌++◌}
use Rattle.format_write.specs.Key.{dual_key}
use Rattle.format_write.specs.Decimal.{decimal}
use Rattle.format_write.specs.Text.{dual_line}
use Rattle.format_print.proofs.put_dual.put_dual.Goals as goal

pub returns : goal.returns
unfolding dual_line dual_key
returns c =
    let small : length c.args.out.now ≤ farthest = omega arith in
    let start = wrote_then small c.put_bytes-next.ensures c.put_number-next.ensures in
    let value = wrote_as start (ap (λ x. dual_key ++ decimal x) c.value.ensures) in
    wrote_then small (wrote_then small (wrote_then small value c.put-next.ensures) c.put_members-next.ensures) c.put.ensures
