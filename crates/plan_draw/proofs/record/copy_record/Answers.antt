-- `copy_record` meets its contract: it stores at rising places.
use mathlib.Core.Path.{refl, ◌∙◌}
use Rattle.base_buffer.specs.Store.{remade}
use Rattle.base_buffer.proofs.Laws.Store.{remade_more, remade_end}
use Rattle.plan_draw.specs.Members.{copied}
use native.Mathlib.Omega.{arith}
use Rattle.plan_draw.proofs.record.copy_record.Goals as goal

pub loop-i-init : goal.loop-i-init
unfolding remade
loop-i-init c = (omega arith, refl)

pub loop-i-preserved : goal.loop-i-preserved
loop-i-preserved c =
    (omega arith, c.put.ensures ∙ remade_more _ _ _ _ _ c.loop-i.invariant.1 c.at.ensures)

pub returns : goal.returns
unfolding copied
returns c = c.loop-i.invariant.1 ∙ remade_end _ _ _ _ (omega arith) (omega arith)
