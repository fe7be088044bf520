-- `settle_bound` meets its contract: the rounds are those that are given, and the sum is that of the settled values.
use Rattle.std.proofs.Common.{refl}
use Rattle.plan_rounds.proofs.bound.settle_bound.Goals as goal

pub returns : goal.returns
returns c = record { rounds_value = (refl, c.sum_values-bound.ensures); values_value = c.settle_all.ensures }
