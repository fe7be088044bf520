-- `write_low`: what is left to store, on what is stored, makes the whole.
use Prim.Native.Nat.{◌+◌, ◌-◌, ◌/◌}
use native.Mathlib.Omega.{arith}
use mathlib.Core.Path.{◌≡◌, ap, sym, ◌∙◌}
use lib.Seq.{sets}
use Rattle.format_record.specs.Bits.{low_bytes}
use Rattle.format_record.specs.Record.{overwritten}
use Rattle.format_record.proofs.Laws.Bytes.{store_low}
use Rattle.format_record.proofs.write_low.Goals as goal

pub loop-i-preserved : goal.loop-i-preserved
loop-i-preserved c =
    let l = c.loop-i in
    let count = c.args.count in
    ap (λ s. sets s (l.i + 1) (low_bytes (count - (l.i + 1)) (l.rest / 256))) c.put.ensures
    ∙ store_low l.s l.i count l.rest c.loop-i-test.true
    ∙ l.invariant

pub returns : goal.returns
unfolding overwritten low_bytes
returns c =
    let a = c.args in
    let l = c.loop-i in
    let none : a.count - l.i ≡ 0 = omega arith in
    sym (ap (λ n. sets l.s l.i (low_bytes n l.rest)) none) ∙ l.invariant
