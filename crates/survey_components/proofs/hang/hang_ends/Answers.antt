-- `hang_ends` meets its contract: two climbs, then one root hangs on the other.
use Rattle.survey_components.specs.Roots.{climbed_twice, ends_hung, one_root}
use Rattle.survey_components.proofs.hang.hang_ends.Goals as goal

pub returns : goal.returns
unfolding climbed_twice ends_hung one_root
returns c =
    let second = rw c.climb-x.ensures.left at c.climb-y.ensures in
    let stored = c.put.ensures in record { one = rw (← c.climb-x.ensures.root, ← second.root); hung = rw (stored, ← c.climb-x.ensures.root, ← second.root, ← second.left) }
