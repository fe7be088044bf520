-- `level` meets its contract: before each turn the vertices below v hang on their roots.
use mathlib.Core.Path.{◌≡◌}
use Rattle.survey_components.specs.Roots.{levelled}
use Rattle.survey_components.proofs.level.level.Given as goal

abbrev pub invariant-loop-v : goal.invariant-loop-v
invariant-loop-v l = l.parents ≡ levelled l.steps l.v l.initial.parents
