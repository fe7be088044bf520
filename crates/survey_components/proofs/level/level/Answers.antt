-- `level` meets its contract: before each turn the vertices below v hang on their roots.
use mathlib.Core.Path.{refl, ◌∙◌}
use native.Mathlib.Omega.{arith}
use Rattle.survey_components.specs.Roots.{levelled}
use Rattle.survey_components.specs.Laws.Roots.{level_turn, level_end}
use Rattle.survey_components.proofs.level.level.Goals as goal

pub loop-v-init : goal.loop-v-init
unfolding levelled
loop-v-init c = refl

pub loop-v-preserved : goal.loop-v-preserved
loop-v-preserved c =
    let top = rw c.at.ensures at c.climb-root.ensures in
    rw (c.put.ensures, top.root, top.left) (level_turn _ _ _ c.loop-v.invariant)

pub returns : goal.returns
returns c = c.loop-v.invariant ∙ level_end _ _ _ _ (omega arith) (omega arith)
