-- `label_lists` meets its contract: after i pairs the labels are those of the pairs below i.
use Rattle.survey_core.specs.Lists.{lists_from}
use Rattle.survey_lists.proofs.Laws.Room.{Labelled}
use Rattle.survey_lists.proofs.pour.label_lists.Given as goal

abbrev pub invariant-loop-i : goal.invariant-loop-i
invariant-loop-i l = Labelled (lists_from l.groups l.owners l.others) l.i l.labels
