-- `settle` meets its contract: one store.
use Rattle.plan_rounds.specs.Tables.{settled_at}
use Rattle.plan_rounds.proofs.settle.settle.Goals as goal

pub returns : goal.returns
unfolding settled_at
returns c =
    rw (← c.at.ensures, ← c.at-2.ensures, ← c.settled-x.ensures) c.put.ensures
