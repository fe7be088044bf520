-- `first_split` meets its contract: a scan of the groups.
use lib.ListN.{get_or}
use lib.Dec.{eqb}
use Rattle.base_limits.specs.Limits.{group_numbers}
use Rattle.base_limits.specs.Verdict.{refuse_if}
use Rattle.base_limits.specs.Laws.Verdict.{Scanned}
use Rattle.survey_groups.proofs.separating.first_split.Given as goal

abbrev pub invariant-loop-g : goal.invariant-loop-g
invariant-loop-g l = Scanned group_numbers (λ g. refuse_if (eqb (get_or l.table g 0) 1) l.number g) l.g
