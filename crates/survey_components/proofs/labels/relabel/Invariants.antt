-- `relabel` meets its contract: it stores at rising places.
use mathlib.Core.Path.{◌≡◌}
use Rattle.theory_graph.specs.Component.{merged}
use Rattle.base_buffer.specs.Store.{remade}
use Rattle.survey_components.proofs.labels.relabel.Given as goal

abbrev pub invariant-loop-label : goal.invariant-loop-label
invariant-loop-label l = l.labels ≡ remade (λ v. merged l.x l.y l.z (λ l. l)) l.label-index l.initial.labels
