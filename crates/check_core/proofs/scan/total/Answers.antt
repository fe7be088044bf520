-- `total` meets its contract: whatever the calls answer, the sum is that of the values of the records below i, and small.
use native.Mathlib.Omega.{arith}
use mathlib.Core.Path.{refl, subst}
use mathlib.Core.List.{List}
use Prim.Native.Nat.{ℕ}
use Rattle.std.specs.Fn.{FnReturnsAt}
use Rattle.std.proofs.lemmas.Fn.{says_at}
use Rattle.base_finite.specs.Below.{sum_below}
use Rattle.base_finite.specs.Laws.Count.{sum_more, sum_end}
use Rattle.check_core.proofs.scan.total.Goals as goal

pub loop-i-init : goal.loop-i-init
unfolding sum_below
loop-i-init g c = (omega arith, λ f h. refl)

pub overflow_add-sum : goal.overflow_add-sum
overflow_add-sum g c =
    let told = subst (λ (part : List ℕ). FnReturnsAt g.F.Fn c.args.value part c.value-sum.result) c.«record».ensures (says_at g.F.Fn c.value-sum.ensures refl) in
    let one = c.requires.small c.loop-i.i _ c.loop-i-test.true told in
    omega (arith, c.requires.few)

pub loop-i-preserved : goal.loop-i-preserved
loop-i-preserved g c =
    let told = subst (λ (part : List ℕ). FnReturnsAt g.F.Fn c.args.value part c.value-sum.result) c.«record».ensures (says_at g.F.Fn c.value-sum.ensures refl) in
    let one = c.requires.small c.loop-i.i _ c.loop-i-test.true told in
    (omega arith, λ f h. sum_more _ _ (c.loop-i.invariant.1 f h) (h c.loop-i.i _ c.loop-i-test.true told))

pub returns : goal.returns
returns g c f h = sum_end _ _ _ (omega arith) (omega arith) (c.loop-i.invariant.1 f h)
