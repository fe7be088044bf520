-- `home` meets its contract: the own group, or the first pair that the search finds.
use Rattle.survey_core.specs.Lists.{lists_from}
use Rattle.survey_lists.proofs.Laws.Home.{Homeless}
use Rattle.survey_lists.proofs.homes.home.Given as goal

abbrev pub invariant-loop-i : goal.invariant-loop-i
invariant-loop-i l = Homeless (lists_from l.groups l.owners l.others) l.v l.i
