-- `active_flags` meets its contract: after v vertices the flags say which components those make active.
use Prim.Native.Nat.{◌≤◌}
use mathlib.Core.Path.{◌≡◌}
use lib.ListN.{length, get_or}
use Rattle.base_finite.specs.Below.{counted, tabulate}
use Rattle.base_limits.specs.Limits.{max_duals}
use Rattle.survey_core.specs.Survey.{groups_alone}
use Rattle.plan_active.specs.Laws.Flags.{active_below}
use Rattle.plan_active.proofs.flags.active_flags.Given as goal

abbrev pub invariant-loop-v : goal.invariant-loop-v
invariant-loop-v l =
    (l.v ≤ length l.groups) × (l.flags ≡ tabulate max_duals (λ c. counted (active_below (groups_alone l.groups) (λ v. get_or l.labels v 0) l.v c) 1))
