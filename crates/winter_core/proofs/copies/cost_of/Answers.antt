-- `cost_of` meets its contract: an arm for each answer.
use Rattle.winter_core.proofs.Laws.Call.{cost_finished, cost_refused}
use Rattle.winter_core.proofs.copies.cost_of.Goals as goal

pub returns-in-Finished : goal.returns-in-Finished
returns-in-Finished c =
    cost_finished c.in-Finished.is

pub returns-in-Refused : goal.returns-in-Refused
returns-in-Refused c =
    cost_refused c.in-Refused.is
