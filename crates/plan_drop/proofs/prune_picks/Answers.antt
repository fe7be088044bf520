-- `prune_picks` meets its contract: a refusal writes nothing, and where none comes the picked edges are what the batches ask for.
use Rattle.std.proofs.Common.{[], sym, refl, ◌∙◌, arith}
use Rattle.base_limits.specs.Verdict.{written}
use Rattle.base_limits.specs.Laws.Verdict.{written_refused}
use Rattle.survey_core.proofs.Laws.Group.{plain_bytes}
use Rattle.plan_drop.specs.Laws.Prunable.{picks_ends, picks_prunable}
use Rattle.plan_drop.proofs.prune_picks.Goals as goal

pub loop_refusal-found-requires : goal.loop_refusal-found-requires
loop_refusal-found-requires c = picks_ends _ _ _ _ c.requires

-- 21 or 14
pub returns-in_default : goal.returns-in_default
returns-in_default c = record { result_value = c.loop_refusal-found.ensures; marks_value = written_refused _ _ refl c.in_default.is }

pub prune_forest-requires : goal.prune_forest-requires
prune_forest-requires c =
    picks_prunable _ _ _ _ c.requires
    (plain_bytes _ _ _ [] (λ v. omega (arith, c.shared_slice_known-1.given v)))
    (sym c.loop_refusal-found.ensures ∙ c.in-Fine.is)

-- pruned
pub returns : goal.returns
unfolding written
returns c =
    record { result_value = sym c.in-Fine.is ∙ c.loop_refusal-found.ensures; marks_value = c.prune_forest.ensures }
