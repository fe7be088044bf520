-- `put_copies` meets its contract: nothing, or the key and the two numbers.
use Prim.Native.Nat.{◌≤◌}
use native.Mathlib.Omega.{arith}
use lib.ListN.{length}
use Rattle.format_write.specs.Wrote.{farthest}
use Rattle.format_write.proofs.Laws.Wrote.{wrote_none, wrote_then, wrote_as}
use Rattle.text_winter.specs.Output.{copies_key}
use Rattle.text_winter.proofs.Laws.Lines.{copied_line, uncopied_line}
use Rattle.text_winter.proofs.print.put_copies.Goals as goal

pub returns-then-copies-lt1 : goal.returns-then-copies-lt1
returns-then-copies-lt1 c =
    wrote_as (wrote_none c.args.out.now c.args.at) (uncopied_line c.args.copies c.args.track c.if-copies-lt1.true)

pub returns : goal.returns
unfolding copies_key
returns c =
    let a = c.args in
    let small : length a.out.now ≤ farthest = omega arith in
    wrote_as (wrote_then small (wrote_then small (wrote_then small (wrote_then small c.put_bytes-next.ensures c.put_number-next.ensures) c.put-next.ensures) c.put_number-next-2.ensures) c.put.ensures)
    (copied_line a.copies a.track c.if-copies-lt1.false)
