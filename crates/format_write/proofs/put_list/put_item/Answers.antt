-- `put_item`: a number, after a comma unless it is the first.
use native.Mathlib.Omega.{arith}
use lib.ListN.{length}
use Rattle.format_write.specs.Wrote.{farthest}
use Rattle.format_write.proofs.Laws.Wrote.{wrote_then, wrote_as}
use Prim.Native.Nat.{◌≤◌}
use Rattle.format_write.proofs.Laws.Text.{item_first, item_later}
use Rattle.format_write.proofs.put_list.put_item.Goals as goal

pub returns-then-first : goal.returns-then-first
returns-then-first c = wrote_as c.put_number.ensures (item_first c.args.v c.if-first.true)

pub returns : goal.returns
returns c =
    let a = c.args in
    let small : length a.out.now ≤ farthest = omega arith in
    wrote_as (wrote_then small c.put-next.ensures c.put_number-2.ensures) (item_later a.v c.if-first.false)
