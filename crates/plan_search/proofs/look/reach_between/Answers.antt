-- `reach_between` meets its contract: each return by the ends that led there.
use Rattle.plan_search.proofs.Laws.Tables.{reach_first, reach_second, reach_neither}
use Rattle.plan_search.proofs.look.reach_between.Goals as goal

pub returns-then-alone_at : goal.returns-then-alone_at
returns-then-alone_at c = reach_first _ _ _ _ _ c.alone_at.ensures c.if-alone_at.true

pub returns-then-alone_at-2 : goal.returns-then-alone_at-2
returns-then-alone_at-2 c = reach_second _ _ _ _ _ c.alone_at-2.ensures c.if-alone_at-2.true

pub returns : goal.returns
returns c = reach_neither _ _ _ _ _ c.alone_at.ensures c.if-alone_at.false c.alone_at-2.ensures c.if-alone_at-2.false
