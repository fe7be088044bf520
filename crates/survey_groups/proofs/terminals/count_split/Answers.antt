-- `count_split` meets its contract: it counts upwards.
use mir.Val.{bool_byte}
use mathlib.Core.Path.{◌≡◌, refl, ◌∙◌}
use lib.ListN.{get_or}
use lib.Dec.{eqb}
use Rattle.std.specs.Prelude.{Bool, true, false}
use Rattle.base_finite.specs.Below.{counted, count_below}
use Rattle.base_finite.specs.Laws.Count.{count_more, count_end, count_bound}
use native.Mathlib.Omega.{arith}
use Rattle.survey_groups.proofs.terminals.count_split.Goals as goal

as_counted : (t : Bool) → bool_byte t ≡ counted t 1
unfolding counted
as_counted true = refl
as_counted false = refl

step : (c : goal.After-from-count)
    → c.from-count.result ≡ counted (eqb (get_or c.args.table.now (get_or c.args.groups.now c.loop-group.group-index 0) 0) 1) 1
step c = rw (← c.from.ensures, ← c.at.ensures) (c.from-count.ensures ∙ as_counted _)

pub loop-group-init : goal.loop-group-init
unfolding count_below Rattle.base_finite.specs.Below.sum_below
loop-group-init c = refl

pub overflow_add-count : goal.overflow_add-count
overflow_add-count c = let b = count_bound _ _ c.loop-group.invariant (step c) in omega arith

pub loop-group-preserved : goal.loop-group-preserved
loop-group-preserved c = count_more _ _ c.loop-group.invariant (step c)

pub returns : goal.returns
returns c = count_end _ _ _ (omega arith) (omega arith) c.loop-group.invariant
