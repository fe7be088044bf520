-- `active_ends` meets its contract: each return by the tests that led there.
use borrow.Author.Tests.{eq-eqb, ne_eqb}
use Rattle.theory_steiner.specs.Growth.{active_ends}
use Rattle.plan_search.specs.Between.{ends_in}
use Rattle.plan_search.proofs.better.active_ends.Goals as goal

-- both ends active
pub returns-then-second-eq1 : goal.returns-then-second-eq1
unfolding active_ends ends_in
returns-then-second-eq1 c = rw (eq-eqb c.args.first 1 c.if-first-eq1.true, eq-eqb c.args.second 1 c.if-second-eq1.true)

-- the first alone
pub returns-then-first-eq1 : goal.returns-then-first-eq1
unfolding active_ends ends_in
returns-then-first-eq1 c = rw (eq-eqb c.args.first 1 c.if-first-eq1.true, ne_eqb c.args.second 1 c.if-second-eq1.false)

-- the second alone
pub returns-then-second-eq1-2 : goal.returns-then-second-eq1-2
unfolding active_ends ends_in
returns-then-second-eq1-2 c = rw (ne_eqb c.args.first 1 c.if-first-eq1.false, eq-eqb c.args.second 1 c.if-second-eq1-2.true)

-- neither
pub returns : goal.returns
unfolding active_ends ends_in
returns c = rw (ne_eqb c.args.first 1 c.if-first-eq1.false, ne_eqb c.args.second 1 c.if-second-eq1-2.false)
