-- `woken_key` meets its contract: the sum fits.
use Rattle.plan_search.proofs.Laws.Scan.{capped_small}
use Rattle.plan_wake.specs.Wake.{woken_key}
use borrow.Author.Rules.{rules}
use Rattle.plan_wake.proofs.key.woken_key.Goals as goal

pub overflow_add-result : goal.overflow_add-result
overflow_add-result c = let small = capped_small _ c.capped_time.ensures in search rules

pub returns : goal.returns
unfolding woken_key
returns c = search rules
