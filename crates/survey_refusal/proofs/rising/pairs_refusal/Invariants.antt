-- `pairs_refusal` meets its contract: a scan of the pairs.
use lib.ListN.{length}
use Rattle.base_limits.specs.Laws.Verdict.{Scanned}
use Rattle.survey_core.specs.Lists.{lists_from}
use Rattle.survey_core.specs.Pairs.{pair_refusal}
use Rattle.survey_refusal.proofs.rising.pairs_refusal.Given as goal

abbrev pub invariant-loop-i : goal.invariant-loop-i
invariant-loop-i l = Scanned (length l.owners) (pair_refusal (lists_from l.groups l.owners l.others)) l.i
