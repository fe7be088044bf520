-- `relabel_first` meets its contract: the whole where there are no more labels, else the part that is lent.
use native.Mathlib.Omega.{arith}
use Rattle.plan_active.specs.Laws.First.{first_lent, first_all}
use Rattle.plan_active.proofs.relabel.relabel_first.Goals as goal

-- no more labels than n
pub returns-then-labels-n : goal.returns-then-labels-n
returns-then-labels-n c = first_all _ _ _ _ _ (omega arith) c.relabel.ensures

-- the first n
pub returns : goal.returns
returns c = first_lent _ _ _ _ _ c.relabel-2.ensures
