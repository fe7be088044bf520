-- `ends_at` meets its contract: the first end decides, and then the second.
use Rattle.plan_wake.specs.Laws.Loops.{ends_first, ends_second}
use Rattle.plan_wake.proofs.key.ends_at.Goals as goal

pub returns-then-at-c : goal.returns-then-at-c
returns-then-at-c c = ends_first _ _ _ _ c.at.ensures c.if-at-c.true

pub returns : goal.returns
returns c = ends_second _ _ _ _ c.at.ensures c.at-2.ensures c.if-at-c.false
