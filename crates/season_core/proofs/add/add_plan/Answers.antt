-- `add_plan` meets its contract.
use native.Mathlib.Omega.{arith}
use mathlib.Core.Path.{sym, ◌∙◌}
use Rattle.season_core.specs.Laws.Room.{plan_refusal_law, plan_fits, unchanged, plan_after}
use Rattle.season_core.proofs.add.add_plan.Goals as goal

-- 3
pub returns-in_default : goal.returns-in_default
returns-in_default c =
    let found = c.plan_refusal-found.ensures ∙ plan_refusal_law _ _ _ in
    record { verdict_value = found; report_value = (λ small. unchanged _ _ found c.in_default.is) }

pub overflow_add-next : goal.overflow_add-next
overflow_add-next c =
    omega (arith, (plan_fits c.plan_refusal-found.ensures c.in-Fine.is).surveys_few)

pub overflow_add-next-2 : goal.overflow_add-next-2
overflow_add-next-2 c =
    omega (arith, (plan_fits c.plan_refusal-found.ensures c.in-Fine.is).planned_fits)

pub overflow_add-next-3 : goal.overflow_add-next-3
overflow_add-next-3 c =
    omega (arith, (plan_fits c.plan_refusal-found.ensures c.in-Fine.is).cost_fits)

pub overflow_add-next-4 : goal.overflow_add-next-4
overflow_add-next-4 c =
    omega (arith, (plan_fits c.plan_refusal-found.ensures c.in-Fine.is).bound_fits)

pub returns : goal.returns
returns c =
    let found = c.plan_refusal-found.ensures ∙ plan_refusal_law _ _ _ in
    let fine = c.in-Fine.is in
    record { verdict_value = sym fine ∙ found; report_value = (λ small. plan_after _ _ _ found fine (c.twice.ensures small) c.farther-farthest.ensures) }
