-- `collect_pairs` meets its contract: one more row in each turn (`pairs_turn`).
use Rattle.survey_core.specs.Lists.{lists_from}
use Rattle.merge_core.specs.Laws.Pairs.{PairsAt}
use Rattle.merge_core.proofs.pairs.collect_pairs.Given as goal

abbrev pub invariant-loop-w : goal.invariant-loop-w
invariant-loop-w l = PairsAt (lists_from l.groups l.owners l.others) (lists_from l.second_groups l.second_owners l.second_others) l.places l.vertices l.initial.pairs l.w l.pairs l.count
