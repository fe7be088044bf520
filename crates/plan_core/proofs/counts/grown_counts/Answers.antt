-- `grown_counts` meets its contract: the numbers as they are given.
use mathlib.Core.Path.{refl}
use Rattle.plan_rule.specs.Answer.{planned_outcome}
use Rattle.plan_core.proofs.counts.grown_counts.Goals as goal

pub returns : goal.returns
unfolding planned_outcome
returns c = refl
