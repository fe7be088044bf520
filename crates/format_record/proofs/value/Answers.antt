-- `value`: read from the highest byte down, what is read is the number that the bytes from i on spell.
use Prim.Native.Nat.{◌-◌, ◌^◌, ◌≤◌, ◌<◌}
use native.Mathlib.Nat.{pow-le-pow_right}
use native.Mathlib.Omega.{arith}
use mathlib.Core.Path.{◌≡◌, ap, ◌∙◌}
use lib.ListN.{get_or, take, drop}
use lib.Dec.{lit<}
use borrow.Author.Rules.{rules}
use Rattle.format_record.specs.Bits.{number_of}
use Rattle.format_record.specs.Record.{value_in}
use Rattle.format_record.proofs.Laws.Bytes.{number_down, number_part_lt}
use Rattle.format_record.proofs.value.Goals as goal

-- At most seven bytes are read so far.
small : (c : goal.After-from) → c.loop-i.x < 256 ^ 7
small c =
    let l = c.loop-i in
    let part = c.args.part.now in
    let few : 8 - l.i ≤ 7 = omega arith in
    let p : 256 ^ (8 - l.i) ≤ 256 ^ 7 = pow-le-pow_right (lit< tt) few in
    let b : number_of (take (8 - l.i) (drop l.i part)) < 256 ^ (8 - l.i) =
    number_part_lt (8 - l.i) l.i part (λ j. (c.type_inv.part j).fits) in
    omega arith

pub loop-i-init : goal.loop-i-init
unfolding number_of
loop-i-init c = search rules

pub overflow_mul-x : goal.overflow_mul-x
overflow_mul-x c = let b = small c in omega arith

pub overflow_add-x : goal.overflow_add-x
overflow_add-x c = let b = small c in omega arith

pub loop-i-preserved : goal.loop-i-preserved
loop-i-preserved c =
    let l = c.loop-i in
    let part = c.args.part.now in
    let read : c.from.result ≡ get_or part (l.i - 1) 0 = c.from.ensures ∙ c.at.ensures in
    let more = number_down 8 l.i part c.loop-i-test.true l.auto.i in
    cc

pub returns : goal.returns
unfolding value_in
returns c =
    let l = c.loop-i in
    let none : l.i ≡ 0 = omega arith in
    l.invariant ∙ ap (λ i. number_of (take (8 - i) (drop i c.args.part.now))) none
