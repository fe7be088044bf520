-- `own_groups` meets its contract: it stores at rising places.
use lib.ListN.{length, get_or}
use Rattle.survey_lists.proofs.Laws.Room.{Filled}
use Rattle.survey_lists.proofs.homes.own_groups.Given as goal

abbrev pub invariant-loop-v : goal.invariant-loop-v
invariant-loop-v l = Filled (λ v. get_or l.groups v 0) (length l.groups) l.v l.room
