-- `sum_values` meets its contract: it sums upwards.
use Rattle.std.proofs.Common.{◌≡◌, ℕ, ◌+◌, ◌%◌, ◌^◌, get_or, sym, refl, ap, ◌∙◌, arith}
use Rattle.base_finite.specs.Below.{sum_below}
use Rattle.base_finite.specs.Laws.Count.{sum_more}
use Rattle.plan_rounds.proofs.bound.sum_values.Goals as goal

-- One value more, modulo 2^64.
wrapped_more : (v : ℕ) (f : ℕ → ℕ) {so_far next after : ℕ} → so_far ≡ sum_below v f % 2 ^ 64 → next ≡ f v → after ≡ (so_far + next) % 2 ^ 64 → after ≡ sum_below (v + 1) f % 2 ^ 64
wrapped_more v f h k l = let e : sum_below v f + f v ≡ sum_below (v + 1) f = sum_more v f refl refl in omega arith

pub loop-c-init : goal.loop-c-init
unfolding sum_below
loop-c-init c = (omega arith, refl)

pub loop-c-preserved : goal.loop-c-preserved
loop-c-preserved c =
    (omega arith, wrapped_more _ _ c.loop-c.invariant.1 c.at.ensures c.wrapping_add_u64-sum.ensures.value)

pub returns : goal.returns
returns c =
    let same : c.args.count ≡ c.loop-c.c = omega arith in
    c.loop-c.invariant.1 ∙ ap (λ k. sum_below k (λ i. get_or c.args.values.now i 0) % 2 ^ 64) (sym same)
