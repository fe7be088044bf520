-- `rests_between` meets its contract: the one end, and then the other.
use Rattle.plan_search.proofs.Laws.Tables.{rests_second, rests_not}
use Rattle.plan_search.proofs.rest.rests_between.Goals as goal

pub returns-then-alone_at : goal.returns-then-alone_at
returns-then-alone_at c = rests_second _ _ _ _ c.alone_at.ensures c.if-alone_at.true c.alone_at-then-alone_at.ensures

pub returns : goal.returns
returns c = rests_not _ _ _ _ c.alone_at.ensures c.if-alone_at.false
