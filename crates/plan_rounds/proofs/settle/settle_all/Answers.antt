-- `settle_all` meets its contract: it stores at rising places.
use Rattle.std.proofs.Common.{refl, ◌∙◌, arith}
use Rattle.base_buffer.specs.Store.{remade}
use Rattle.base_buffer.proofs.Laws.Store.{remade_more, remade_end}
use Rattle.plan_rounds.specs.Tables.{settled_values}
use Rattle.plan_rounds.proofs.settle.settle_all.Goals as goal

pub loop-c-init : goal.loop-c-init
unfolding remade
loop-c-init c = (omega arith, refl)

pub loop-c-preserved : goal.loop-c-preserved
loop-c-preserved c =
    (omega arith, c.put.ensures ∙ remade_more _ _ _ _ _ c.loop-c.invariant.1 (rw (← c.at.ensures, ← c.at-in-loop-c.ensures) c.settled-x.ensures))

pub returns : goal.returns
unfolding settled_values
returns c = c.loop-c.invariant.1 ∙ remade_end _ _ _ _ (omega arith) (omega arith)
