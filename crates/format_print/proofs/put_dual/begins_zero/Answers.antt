-- `begins_zero`: v lies inside a byte, or the byte that it begins is looked at.
use Prim.Native.Nat.{◌%◌}
use native.Mathlib.Omega.{arith}
use mathlib.Core.Path.{◌≡◌}
use Rattle.format_write.proofs.Laws.Members.{inside_no_zero, begins_by_byte}
use Rattle.format_print.proofs.put_dual.begins_zero.Goals as goal

pub returns-then-v-gt0 : goal.returns-then-v-gt0
returns-then-v-gt0 c = let a = c.args in inside_no_zero a.part.now a.v c.if-v-gt0.true

pub returns : goal.returns
returns c =
    let a = c.args in
    let begins : a.v % 8 ≡ 0 = omega arith in
    begins_by_byte a.part.now a.v begins c.at.ensures
