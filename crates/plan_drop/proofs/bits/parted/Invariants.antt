-- `parted` meets its contract: before each turn the bits are those of the vertices below v.
use Rattle.std.proofs.Common.{◌≡◌}
use Rattle.plan_drop.specs.Parted.{parted_below}
use Rattle.plan_drop.proofs.bits.parted.Given as goal

abbrev pub invariant-loop-v : goal.invariant-loop-v
invariant-loop-v l = l.bits ≡ parted_below l.words l.mates l.v
