-- `climb` meets its contract: before each turn what is left of the climb is that from x.
use Prim.Native.Nat.{◌-◌}
use mathlib.Core.Path.{◌≡◌}
use Rattle.survey_components.specs.Roots.{climbed}
use Rattle.survey_components.proofs.labels.climb.Given as goal

abbrev pub invariant-loop : goal.invariant-loop
invariant-loop l = climbed (l.steps - l.counter) l.parents l.x ≡ climbed l.steps l.initial.parents l.v
