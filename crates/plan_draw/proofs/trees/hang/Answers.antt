-- `hang` meets its contract: three stores.
use Rattle.plan_draw.specs.Trace.{hung_on}
use Rattle.plan_draw.proofs.trees.hang.Goals as goal

pub returns : goal.returns
unfolding hung_on
returns c =
    rw (c.put-3.ensures, c.put-2.ensures, c.put.ensures)
