-- `with_bit`: a power is added where the bit is clear, and the sum is a byte again.
use Prim.Native.Nat.{◌+◌, ◌*◌, ◌%◌, ◌^◌, ◌<◌}
use mathlib.Core.Path.{◌≡◌, ap, sym, ◌∙◌}
use native.Mathlib.Omega.{arith}
use Rattle.format_record.specs.Bits.{with_bit}
use Rattle.format_record.proofs.Laws.Bits.{with_bit_set, with_bit_clear, with_bit_lt, power_byte}
use Rattle.format_record.proofs.with_bit.Goals as goal

-- The sum is what the definition has.
sum_is : (c : goal.Else-bit) → c.args.b + 1 * 2 ^ (c.args.k % 8) % 2 ^ 8 ≡ with_bit c.args.b (c.args.k % 8)
sum_is c =
    let b = c.args.b in
    let k = c.args.k % 8 in
    ap (λ x. b + x) (power_byte k (omega arith)) ∙ sym (with_bit_clear b k (sym c.bit.ensures ∙ c.if-bit.false))

pub returns-then-bit : goal.returns-then-bit
returns-then-bit c = sym (with_bit_set c.args.b (c.args.k % 8) (sym c.bit.ensures ∙ c.if-bit.true))

pub overflow_add-result : goal.overflow_add-result
overflow_add-result c =
    let lt : with_bit c.args.b (c.args.k % 8) < 256 =
    with_bit_lt c.args.b (c.args.k % 8) (omega arith) (omega arith) in
    record { fits = rw (sum_is c) lt }

pub returns : goal.returns
returns c = sum_is c
