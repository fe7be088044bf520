-- `is_among` meets its contract: an arm for each set.
use Rattle.why_core.specs.Parted.{least_mark}
use Rattle.why_core.proofs.parted.is_among.Goals as goal

pub returns-in-Picks : goal.returns-in-Picks
unfolding least_mark
returns-in-Picks c = rw c.in-Picks.is c.is_pick.ensures

pub returns-in-Keeps : goal.returns-in-Keeps
unfolding least_mark
returns-in-Keeps c = rw c.in-Keeps.is c.is_keep.ensures
