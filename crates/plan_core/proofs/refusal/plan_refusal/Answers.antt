-- `plan_refusal` meets its contract: what comes before 8, then 8.
use mathlib.Core.Path.{sym, ◌∙◌}
use Rattle.plan_core.specs.Laws.Whole.{lent_fits, lent_stops, lent_goes_on}
use Rattle.plan_core.proofs.refusal.plan_refusal.Goals as goal

-- 1 to 6, 18 and 7
pub returns-in_default : goal.returns-in_default
returns-in_default c = lent_stops _ _ _ c.lent_refusal-found.ensures c.in_default.is

pub unjoined_refusal-requires : goal.unjoined_refusal-requires
unjoined_refusal-requires c = (lent_fits _ _ _ (sym c.lent_refusal-found.ensures ∙ c.in-Fine.is)).survey

-- 8
pub returns : goal.returns
returns c = lent_goes_on _ _ _ c.lent_refusal-found.ensures _ c.in-Fine.is c.unjoined_refusal.ensures
