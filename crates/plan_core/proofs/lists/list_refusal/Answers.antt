-- `list_refusal` meets its contract: each return by what was found.
use Rattle.plan_core.specs.Laws.Stages.{lists_fine, lists_apart, lists_other}
use Rattle.plan_core.proofs.lists.list_refusal.Goals as goal

-- nothing
pub returns-in_default : goal.returns-in_default
returns-in_default c = lists_fine _ c.in_default.is

-- 14
pub returns-then-number-eq14 : goal.returns-then-number-eq14
returns-then-number-eq14 c = lists_apart c.in-Refused.is c.if-number-eq14.true c.unjoined_refusal.ensures

-- any other
pub returns : goal.returns
returns c = lists_other _ c.in-Refused.is c.if-number-eq14.false
