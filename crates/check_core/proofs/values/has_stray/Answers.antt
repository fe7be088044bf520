-- `has_stray` meets its contract: while it runs, nothing below v is stray.
use native.Mathlib.Omega.{arith}
use mathlib.Core.Path.{refl, sym, ◌∙◌}
use Rattle.base_finite.specs.Below.{any_below}
use Rattle.base_finite.specs.Laws.Below.{any_intro}
use Rattle.base_finite.specs.Laws.Count.{any_more, any_end}
use Rattle.check_core.proofs.values.has_stray.Goals as goal

pub loop-v-init : goal.loop-v-init
unfolding any_below
loop-v-init c = (omega arith, refl)

pub returns-then-is_stray : goal.returns-then-is_stray
returns-then-is_stray c = sym (any_intro _ _ c.loop-v.v (omega arith) (sym c.is_stray.ensures ∙ c.if-is_stray.true))

pub loop-v-preserved : goal.loop-v-preserved
loop-v-preserved c = (omega arith, any_more _ _ c.loop-v.invariant.1 (sym c.is_stray.ensures ∙ c.if-is_stray.false))

pub returns : goal.returns
returns c = sym (any_end _ c.loop-v.v _ (omega arith) (omega arith) c.loop-v.invariant.1)
