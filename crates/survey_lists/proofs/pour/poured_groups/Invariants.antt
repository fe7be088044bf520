-- `poured_groups` meets its contract: it stores at rising places.
use lib.ListN.{length}
use Rattle.survey_core.specs.Lists.{lists_from}
use Rattle.survey_lists.specs.Pouring.{poured}
use Rattle.survey_lists.proofs.Laws.Room.{Filled}
use Rattle.survey_lists.proofs.pour.poured_groups.Given as goal

abbrev pub invariant-loop-v : goal.invariant-loop-v
invariant-loop-v l = Filled (poured (lists_from l.groups l.owners l.others)) (length l.groups) l.v l.room
