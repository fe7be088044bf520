-- `start_keys` meets its contract: it stores at rising places.
use mathlib.Core.Path.{refl, ◌∙◌}
use Rattle.base_buffer.specs.Store.{remade}
use Rattle.base_buffer.proofs.Laws.Store.{remade_more, remade_end}
use Rattle.plan_search.proofs.Laws.Keys.{key_read}
use native.Mathlib.Omega.{arith}
use Rattle.plan_search.proofs.keys.start_keys.Goals as goal

pub loop-e-init : goal.loop-e-init
unfolding remade
loop-e-init c = (omega arith, refl)

pub loop-e-preserved : goal.loop-e-preserved
loop-e-preserved c = (
  omega arith,
  c.put.ensures
      ∙ remade_more _ _ _ _ _ c.loop-e.invariant.1
      (key_read _ _ _ _ _ c.at.ensures refl c.at-first.ensures c.at-in-loop-e.ensures refl c.at-second.ensures c.at-in-loop-e-2.ensures c.start_key-key.ensures),
)

pub returns : goal.returns
returns c = c.loop-e.invariant.1 ∙ remade_end _ _ _ _ (omega arith) (omega arith)
