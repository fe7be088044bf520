-- `put_bytes`: what is written so far are the first bytes.
use Prim.Native.Nat.{◌≤◌}
use native.Mathlib.Numerals.{add-one}
use native.Mathlib.Omega.{arith}
use mathlib.Core.Path.{ap, sym, ◌∙◌}
use lib.ListN.{length, take}
use lib.Seq.{take-suc, take_all}
use Rattle.format_write.specs.Wrote.{farthest}
use Rattle.format_write.proofs.Laws.Wrote.{wrote_none, wrote_then, wrote_as}
use Rattle.format_write.proofs.put_bytes.Goals as goal

pub loop-b-init : goal.loop-b-init
loop-b-init c = wrote_none c.args.out.now c.args.at

pub loop-b-preserved : goal.loop-b-preserved
loop-b-preserved c =
    let l = c.loop-b in
    let a = c.args in
    let small : length a.out.now ≤ farthest = omega arith in
    wrote_as
    (wrote_then small l.invariant c.put-next.ensures)
    (sym (ap (λ n. take n a.bytes.now) (add-one l.b-index) ∙ take-suc a.bytes.now l.b-index 0 c.loop-b-test.true))

pub returns : goal.returns
returns c = wrote_as c.loop-b.invariant (take_all c.loop-b.b-index _ c.loop-b-test.false)
