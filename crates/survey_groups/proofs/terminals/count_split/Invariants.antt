-- `count_split` meets its contract: it counts upwards.
use mathlib.Core.Path.{◌≡◌}
use lib.ListN.{get_or}
use lib.Dec.{eqb}
use Rattle.base_finite.specs.Below.{count_below}
use Rattle.survey_groups.proofs.terminals.count_split.Given as goal

abbrev pub invariant-loop-group : goal.invariant-loop-group
invariant-loop-group l = l.count ≡ count_below l.group-index (λ v. eqb (get_or l.table (get_or l.groups v 0) 0) 1)
