-- `drop_all` meets its contract: it stores at rising places.
use Rattle.survey_components.specs.Labels.{picked_in}
use Rattle.base_buffer.specs.Store.{remade}
use Rattle.theory_steiner.specs.Pruning.{mark_of}
use Rattle.std.proofs.Common.{◌≡◌, false}
use Rattle.plan_drop.proofs.dropped.drop_all.Given as goal

abbrev pub invariant-loop-e : goal.invariant-loop-e
invariant-loop-e l = l.marks ≡ remade (λ e mark. mark_of (picked_in l.picked e) false) l.e l.initial.marks
