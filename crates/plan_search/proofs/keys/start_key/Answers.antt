-- `start_key` meets its contract: each return by the tests that led there.
use Prim.Native.Nat.{◌*◌}
use mathlib.Core.Path.{ap}
use borrow.Author.Tests.{eq-eqb, ne_eqb}
use Rattle.plan_search.specs.Keys.{start_key}
use Rattle.plan_search.proofs.keys.start_key.Goals as goal

-- both ends active
pub returns-then-second-eq1 : goal.returns-then-second-eq1
unfolding start_key
returns-then-second-eq1 c = rw (eq-eqb _ _ c.if-first-eq1.true, eq-eqb _ _ c.if-second-eq1.true) (ap (λ x. 2 * x) c.from-whole.ensures)

-- the first
pub returns-then-first-eq1 : goal.returns-then-first-eq1
unfolding start_key
returns-then-first-eq1 c = rw (eq-eqb _ _ c.if-first-eq1.true, ne_eqb _ _ c.if-second-eq1.false) (ap (λ x. 2 * (2 * x)) c.from-whole.ensures)

-- the second
pub returns-then-second-eq1-2 : goal.returns-then-second-eq1-2
unfolding start_key
returns-then-second-eq1-2 c = rw (ne_eqb _ _ c.if-first-eq1.false, eq-eqb _ _ c.if-second-eq1-2.true) (ap (λ x. 2 * (2 * x)) c.from-whole.ensures)

-- neither
pub returns : goal.returns
unfolding start_key
returns c = rw (ne_eqb _ _ c.if-first-eq1.false, ne_eqb _ _ c.if-second-eq1-2.false)
