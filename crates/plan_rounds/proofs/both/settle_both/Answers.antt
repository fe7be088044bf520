-- `settle_both` meets its contract: one after the other.
use Rattle.plan_rounds.proofs.both.settle_both.Goals as goal

pub returns : goal.returns
returns c = rw (← c.settle.ensures) c.settle-2.ensures
