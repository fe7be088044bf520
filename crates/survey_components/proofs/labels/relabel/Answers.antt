-- `relabel` meets its contract: it stores at rising places.
use mathlib.Core.Path.{refl, ◌∙◌}
use Rattle.theory_graph.specs.Component.{merged}
use Rattle.base_buffer.specs.Store.{remade}
use Rattle.survey_components.specs.Buffer.{relabelled}
use Rattle.base_buffer.proofs.Laws.Store.{remade_more, remade_end}
use native.Mathlib.Omega.{arith}
use Rattle.survey_components.proofs.labels.relabel.Goals as goal

pub loop-label-init : goal.loop-label-init
unfolding remade
loop-label-init c = refl

pub loop-label-preserved : goal.loop-label-preserved
loop-label-preserved c = remade_more (λ v. merged _ _ _ (λ l. l)) _ _ _ _ c.loop-label.invariant c.merged_label.ensures

pub returns : goal.returns
unfolding relabelled
returns c = c.loop-label.invariant ∙ remade_end _ _ _ _ (omega arith) (omega arith)
