-- `is_either` meets its contract: each return by its test.
use borrow.Author.Tests.{eq-eqb, ne_eqb}
use Rattle.plan_active.specs.Flags.{of_either}
use Rattle.plan_active.proofs.parted.is_either.Goals as goal

-- it is x
pub returns-then-label-x : goal.returns-then-label-x
unfolding of_either
returns-then-label-x c = rw (eq-eqb c.args.label c.args.x c.if-label-x.true)

-- it is not
pub returns : goal.returns
unfolding of_either
returns c = rw (ne_eqb c.args.label c.args.x c.if-label-x.false)
