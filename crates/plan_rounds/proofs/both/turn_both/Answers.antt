-- `turn_both` meets its contract: one after the other.
use Rattle.plan_rounds.proofs.both.turn_both.Goals as goal

pub returns : goal.returns
returns c = rw (← c.turn_loads.ensures) c.turn_loads-2.ensures
