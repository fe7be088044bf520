-- `turn_load` meets its contract: one store.
use Rattle.plan_rounds.specs.Tables.{turned_at}
use Rattle.plan_rounds.proofs.turn.turn_load.Goals as goal

pub returns : goal.returns
unfolding turned_at
returns c = rw (← c.at.ensures, ← c.settled-x.ensures) c.put.ensures
