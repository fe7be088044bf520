-- `power` meets its contract: 1, 2, 4, 8.
use native.Mathlib.Omega.{arith}
use Rattle.winter_core.proofs.Laws.Call.{power_at}
use Rattle.winter_core.proofs.bit.power.Goals as goal

pub returns-then-bit-lt1 : goal.returns-then-bit-lt1
returns-then-bit-lt1 c =
    power_at 0 c.args.bit (omega (arith, c.if-bit-lt1.true))

pub returns-then-bit-lt2 : goal.returns-then-bit-lt2
returns-then-bit-lt2 c =
    power_at 1 c.args.bit (omega (arith, c.if-bit-lt2.true, c.if-bit-lt1.false))

pub returns-then-bit-lt3 : goal.returns-then-bit-lt3
returns-then-bit-lt3 c =
    power_at 2 c.args.bit (omega (arith, c.if-bit-lt3.true, c.if-bit-lt2.false))

pub returns : goal.returns
returns c =
    let a = c.args in
    power_at 3 a.bit (omega (arith, c.if-bit-lt3.false, c.requires))
