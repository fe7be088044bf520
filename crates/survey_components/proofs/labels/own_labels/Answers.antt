-- `own_labels` meets its contract: it stores at rising places.
use mathlib.Core.Path.{refl, ◌∙◌}
use Rattle.base_buffer.specs.Store.{remade}
use Rattle.base_buffer.proofs.Laws.Store.{remade_more, remade_end}
use native.Mathlib.Omega.{arith}
use Rattle.survey_components.proofs.labels.own_labels.Goals as goal

pub loop-v-init : goal.loop-v-init
unfolding remade
loop-v-init c = refl

pub loop-v-preserved : goal.loop-v-preserved
loop-v-preserved c = c.put.ensures ∙ remade_more (λ v x. v) _ _ _ _ c.loop-v.invariant refl

pub returns : goal.returns
returns c = c.loop-v.invariant ∙ remade_end _ _ _ _ (omega arith) (omega arith)
