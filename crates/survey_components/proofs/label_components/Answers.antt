-- `label_components` meets its contract: after e edges there are the trees of the edges below e.
use Rattle.base_limits.specs.Limits.{max_vertices}
use Rattle.survey_components.specs.Laws.Roots.{trees_none, trees_labels}
use Rattle.survey_components.specs.Laws.Met.{trees_met}
use native.Mathlib.Omega.{arith}
use Rattle.survey_components.proofs.label_components.Goals as goal

pub loop-e-init : goal.loop-e-init
loop-e-init c = (omega arith, trees_none max_vertices _ _ _ _ c.requires.own)

pub loop-e-preserved : goal.loop-e-preserved
loop-e-preserved c =
    let ends = c.requires.ends in (
      omega arith,
      trees_met max_vertices _ _ _ _ _ (ends.first_within _ c.loop-e-test.true) (ends.second_within _ c.loop-e-test.true) c.loop-e.invariant.1 _ (omega arith) c.join_edge.ensures,
    )

pub returns : goal.returns
returns c =
    trees_labels max_vertices _ _ _ _ c.loop-e.e _ (omega arith) (omega arith) c.loop-e.invariant.1 c.level.ensures
