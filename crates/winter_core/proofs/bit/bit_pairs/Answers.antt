-- `bit_pairs` meets its contract: a pair that passes is stored behind the others (`passed_more`).
use Prim.Native.Nat.{◌+◌, ◌≤◌}
use native.Mathlib.Omega.{arith}
use mathlib.Core.Path.{◌≡◌, ap, refl, ◌∙◌}
use mathlib.Core.Bool.{Bool, true, false}
use mir.Val.{bool_byte}
use Rattle.base_finite.specs.Below.{counted, count_below, sum_below}
use Rattle.base_finite.specs.Laws.Below.{count_le, counted_le}
use Rattle.winter_core.specs.Bit.{pair_carries}
use Rattle.winter_core.proofs.Laws.Passing.{passed_start, passed_more, passed_end}
use Rattle.winter_core.proofs.Laws.Call.{carries_at, count_on, count_end}
use Rattle.winter_core.proofs.bit.bit_pairs.Goals as goal

byte_counted : (t : Bool) → bool_byte t ≡ counted t 1
unfolding counted
byte_counted true = refl
byte_counted false = refl

pub loop-i-init : goal.loop-i-init
unfolding count_below sum_below
loop-i-init c =
    let a = c.args in
    (omega arith, (refl, (passed_start (pair_carries a.strengths.now a.others.now a.bit) a.owners.now a.carriers.now, passed_start (pair_carries a.strengths.now a.others.now a.bit) a.others.now a.carried.now)))

pub overflow_add-count : goal.overflow_add-count
overflow_add-count c =
    let a = c.args in
    let one : c.from-count.result ≤ 1 = rw (c.from-count.ensures ∙ byte_counted c.carries-keep.result) (counted_le c.carries-keep.result 1) in
    omega (arith, one, c.loop-i.invariant.1.0, count_le c.loop-i.i (pair_carries a.strengths.now a.others.now a.bit), c.loop-i-test.true, c.requires.owners_len_bound)

pub loop-i-preserved : goal.loop-i-preserved
loop-i-preserved c =
    let a = c.args in
    let below = c.loop-i-test.true in
    let inv = c.loop-i.invariant in
    let keep = (carries_at a.strengths.now a.bit c.at-other.ensures c.carries-keep.ensures) in (
      omega (arith, below),
      (
        count_on (pair_carries a.strengths.now a.others.now a.bit) c.loop-i.i inv.1.0 keep (ap (λ n. c.loop-i.count + n) (c.from-count.ensures ∙ byte_counted _)),
        (
          passed_more (pair_carries a.strengths.now a.others.now a.bit) a.owners.now a.carriers.now c.loop-i.i (omega (arith, below, c.requires.owners_in_bounds)) inv.1.1.0 keep c.at.ensures inv.1.0 c.put_if.ensures,
          passed_more (pair_carries a.strengths.now a.others.now a.bit) a.others.now a.carried.now c.loop-i.i (omega (arith, below, c.requires.owners_in_bounds_2)) inv.1.1.1 keep c.at-other.ensures inv.1.0 c.put_if-in-loop-i.ensures,
        ),
      ),
    )

pub returns : goal.returns
returns c =
    let a = c.args in
    let within = c.loop-i.invariant.0 in
    let left = c.loop-i-test.false in record { value = count_end (pair_carries a.strengths.now a.others.now a.bit) within left c.loop-i.invariant.1.0; carriers_value = c.loop-i.invariant.1.1.0 ∙ passed_end (pair_carries a.strengths.now a.others.now a.bit) a.owners.now a.carriers.now within left; carried_value = c.loop-i.invariant.1.1.1 ∙ passed_end (pair_carries a.strengths.now a.others.now a.bit) a.others.now a.carried.now within left }
