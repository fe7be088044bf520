-- `alone_at` meets its contract: the flag decides, and then the number.
use mathlib.Core.Path.{refl}
use Rattle.plan_search.proofs.Laws.Tables.{alone_active, alone_idle}
use Rattle.plan_search.proofs.rest.alone_at.Goals as goal

-- active
pub returns-then-end-eq1 : goal.returns-then-end-eq1
returns-then-end-eq1 c = alone_active _ _ c.if-end-eq1.true

pub returns : goal.returns
returns c = alone_idle _ c.args.end c.if-end-eq1.false refl
