-- `delay_of` meets its contract: the delay of the case that was found.
use mathlib.Core.Path.{sym}
use Rattle.theory_steiner.specs.Growth.{delay_for}
use Rattle.plan_search.specs.Between.{ends_in, delay_in}
use Rattle.plan_search.proofs.Laws.Between.{delay_case}
use Rattle.plan_search.proofs.better.delay_of.Goals as goal

-- neither end active
pub returns-in-Neither : goal.returns-in-Neither
unfolding ends_in delay_in delay_for
returns-in-Neither c = sym (delay_case _ _ _ c.active_ends-ends.ensures c.in-Neither.is)

-- one
pub returns-in-One : goal.returns-in-One
unfolding ends_in delay_in delay_for
returns-in-One c = sym (delay_case _ _ _ c.active_ends-ends.ensures c.in-One.is)

-- both
pub returns-in-Both : goal.returns-in-Both
unfolding ends_in delay_in delay_for
returns-in-Both c = sym (delay_case _ _ _ c.active_ends-ends.ensures c.in-Both.is)
