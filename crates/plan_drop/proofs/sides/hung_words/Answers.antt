-- `hung_words` meets its contract: what is left of the order leads to the whole.
use Rattle.std.proofs.Common.{◌∙◌, arith}
use Rattle.plan_drop.specs.Laws.Alone.{hung_end, hung_less}
use Rattle.plan_drop.proofs.sides.hung_words.Goals as goal

pub loop-k-preserved : goal.loop-k-preserved
loop-k-preserved c = hung_less _ _ _ _ _ _ c.loop-k-test.true c.loop-k.invariant c.at.ensures c.hang.ensures

pub returns : goal.returns
returns c = hung_end _ _ _ _ _ _ (omega arith) ∙ c.loop-k.invariant
