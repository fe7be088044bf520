-- `spreads` meets its contract: after v vertices the table holds the groups over the vertices below v.
use Prim.Native.Nat.{◌≤◌}
use mathlib.Core.Path.{◌≡◌}
use lib.ListN.{length, get_or}
use Rattle.base_finite.specs.Below.{tabulate}
use Rattle.base_limits.specs.Limits.{group_numbers}
use Rattle.survey_core.specs.Survey.{groups_alone}
use Rattle.survey_groups.specs.Spread.{spread}
use Rattle.survey_groups.proofs.spreads.Given as goal

abbrev pub invariant-loop-v : goal.invariant-loop-v
invariant-loop-v l =
    (l.v ≤ length l.groups) × (l.table ≡ tabulate group_numbers (λ g. spread (groups_alone l.groups) (λ v. get_or l.labels v 0) g l.v))
