-- `own_labels` meets its contract: it stores at rising places.
use mathlib.Core.Path.{◌≡◌}
use Rattle.base_buffer.specs.Store.{remade}
use Rattle.survey_components.proofs.labels.own_labels.Given as goal

abbrev pub invariant-loop-v : goal.invariant-loop-v
invariant-loop-v l = l.labels ≡ remade (λ v x. v) l.v l.initial.labels
