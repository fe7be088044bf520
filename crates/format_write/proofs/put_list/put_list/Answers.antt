-- `put_list`: what is written so far are the first numbers.
use Prim.Native.Nat.{◌≤◌}
use native.Mathlib.Omega.{arith}
use mathlib.Core.Path.{refl, ap, sym}
use lib.ListN.{length}
use lib.Seq.{take_all}
use Rattle.format_write.specs.Text.{listed}
use Rattle.format_write.specs.Wrote.{farthest}
use Rattle.format_write.proofs.Laws.Text.{list_none, list_next}
use Rattle.format_write.proofs.Laws.Wrote.{wrote_none, wrote_then, wrote_as}
use Rattle.format_write.proofs.put_list.put_list.Goals as goal

pub loop-i-init : goal.loop-i-init
loop-i-init c = let a = c.args in wrote_as (wrote_none a.out.now a.at) (sym (list_none a.numbers.now))

pub loop-i-preserved : goal.loop-i-preserved
loop-i-preserved c =
    let l = c.loop-i in
    let a = c.args in
    let small : length a.out.now ≤ farthest = omega arith in
    wrote_as
    (wrote_then small l.invariant c.put_item-next.ensures)
    (list_next a.numbers.now l.i c.loop-i-test.true refl)

pub returns : goal.returns
returns c = wrote_as c.loop-i.invariant (ap listed (take_all c.loop-i.i _ c.loop-i-test.false))
