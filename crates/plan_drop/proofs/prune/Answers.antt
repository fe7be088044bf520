-- `prune` meets its contract: a refusal writes nothing, and where none comes the picked edges are what the batches ask for.
use Rattle.std.proofs.Common.{sym, ◌∙◌, arith}
use Rattle.survey_core.specs.Survey.{survey_from}
use Rattle.survey_core.proofs.Laws.Group.{plain_bytes}
use Rattle.plan_drop.specs.Laws.Prunable.{fine_prunable, marks_kept, marks_written}
use Rattle.plan_drop.proofs.prune.Goals as goal

-- refused
pub returns-in_default : goal.returns-in_default
returns-in_default c =
    record { value = c.forest_refusal-found.ensures; marks_value = marks_kept (survey_from _ _ _ _) _ c.forest_refusal-found.ensures _ c.in_default.is }

pub prune_forest-requires : goal.prune_forest-requires
prune_forest-requires c =
    let a = c.args in
    fine_prunable a.groups.now a.firsts.now a.seconds.now a.weights.now a.picked.now
    (plain_bytes _ _ _ _ (λ v. omega (arith, c.shared_slice_known-1.given v)))
    (sym c.forest_refusal-found.ensures ∙ c.in-Fine.is)

-- pruned
pub returns : goal.returns
returns c =
    record { value = sym c.in-Fine.is ∙ c.forest_refusal-found.ensures; marks_value = marks_written _ _ _ _ _ c.forest_refusal-found.ensures _ c.in-Fine.is c.prune_forest.ensures }
