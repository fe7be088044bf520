-- `judge_edges` meets its contract: after e edges their marks are judged, and the index is that of the next picked one.
use Rattle.plan_drop.specs.Needed.{judged, raised}
use Rattle.survey_components.specs.Labels.{picked_in}
use Rattle.base_buffer.specs.Store.{remade}
use Rattle.base_finite.specs.Below.{count_below}
use Rattle.std.proofs.Common.{◌≡◌}
use Rattle.plan_drop.proofs.judge.judge_edges.Given as goal

abbrev pub invariant-loop-e : goal.invariant-loop-e
invariant-loop-e l =
    (l.i ≡ count_below l.e (picked_in l.picked)) × (l.marks ≡ remade (raised (picked_in l.picked) (judged l.bits l.base)) l.e l.initial.marks)
