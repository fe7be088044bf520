-- `list_spreads` meets its contract: after i pairs the table holds the own groups and the pairs below i.
use lib.ListN.{get_or}
use Rattle.survey_core.specs.Lists.{lists_from}
use Rattle.survey_lists.proofs.Laws.Split.{Noted}
use Rattle.survey_lists.proofs.split.list_spreads.Given as goal

abbrev pub invariant-loop-i : goal.invariant-loop-i
invariant-loop-i l = Noted (lists_from l.groups l.owners l.others) (λ v. get_or l.labels v 0) l.i l.table
