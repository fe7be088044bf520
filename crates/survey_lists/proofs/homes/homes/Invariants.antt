-- `homes` meets its contract: after i pairs the homes are those by the pairs below i.
use Rattle.survey_core.specs.Lists.{lists_from}
use Rattle.survey_lists.proofs.Laws.Room.{Housed}
use Rattle.survey_lists.proofs.homes.homes.Given as goal

abbrev pub invariant-loop-i : goal.invariant-loop-i
invariant-loop-i l = Housed (lists_from l.groups l.owners l.others) l.i l.housed
