-- `prune_forest` meets its contract: after each batch the marks are those of the batches below base.
use Rattle.plan_drop.specs.Laws.Judge.{marks_below}
use Rattle.plan_drop.specs.Prunable.{unweighted}
use Rattle.survey_components.specs.Labels.{picked_in}
use Rattle.std.proofs.Common.{◌≡◌, ◌-◌, length}
use Rattle.plan_drop.proofs.prune_forest.Given as goal

abbrev pub invariant-loop-base : goal.invariant-loop-base
invariant-loop-base l =
    l.marks ≡ marks_below (unweighted l.groups l.firsts l.seconds) (picked_in l.picked) l.base (length l.firsts) l.initial.marks

abbrev pub decreases-loop-base : goal.decreases-loop-base
decreases-loop-base l =
    l.count - l.base
