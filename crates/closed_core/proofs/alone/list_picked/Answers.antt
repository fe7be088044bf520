-- `list_picked` meets its contract: each turn stores one number more in each list, and counts upwards.
use Prim.Native.Nat.{◌-◌}
use native.Mathlib.Omega.{arith}
use mathlib.Core.Path.{refl, ◌∙◌}
use Rattle.base_finite.specs.Below.{count_below, sum_below}
use Rattle.base_finite.specs.Laws.Count.{count_more, count_end, count_bound}
use Rattle.closed_core.specs.Alone.{listed}
use Rattle.closed_core.specs.Laws.Alone.{listed_more, listed_end}
use Rattle.closed_core.proofs.alone.list_picked.Goals as goal

pub loop-e-init : goal.loop-e-init
unfolding count_below sum_below listed
loop-e-init c = ((omega arith, refl), refl, refl, refl, refl)

pub overflow_add-count : goal.overflow_add-count
overflow_add-count c = let b = count_bound _ _ c.loop-e.invariant.0.1 (c.from-count.ensures ∙ c.pick_of-one.ensures) in omega arith

pub loop-e-preserved : goal.loop-e-preserved
loop-e-preserved c =
    let inv = c.loop-e.invariant in (
      (omega arith, count_more _ _ inv.0.1 (c.from-count.ensures ∙ c.pick_of-one.ensures)),
      c.put.ensures ∙ listed_more _ _ _ _ inv.1 inv.0.1 c.at.ensures,
      c.put-in-loop-e.ensures ∙ listed_more _ _ _ _ inv.2 inv.0.1 c.at-in-loop-e.ensures,
      c.put-in-loop-e-2.ensures ∙ listed_more _ _ _ _ inv.3 inv.0.1 c.at-in-loop-e-2.ensures,
      c.put-in-loop-e-3.ensures ∙ listed_more _ _ _ _ inv.4 inv.0.1 c.pick_of-one.ensures,
    )

pub returns : goal.returns
returns c =
    let inv = c.loop-e.invariant in
    let left = c.loop-e-test.false in record {
      value = count_end _ _ _ inv.0.0 left inv.0.1;
      fact = (
        listed_end _ _ _ _ _ inv.0.0 left inv.1,
        listed_end _ _ _ _ _ inv.0.0 left inv.2,
        listed_end _ _ _ _ _ inv.0.0 left inv.3,
        listed_end _ _ _ _ _ inv.0.0 left inv.4,
      );
    }
