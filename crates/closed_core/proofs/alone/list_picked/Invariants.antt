-- `list_picked` meets its contract: each turn stores one number more in each list, and counts upwards.
use Prim.Native.Nat.{◌≤◌, ◌-◌}
use mathlib.Core.Path.{◌≡◌}
use lib.ListN.{length, get_or}
use Rattle.base_finite.specs.Below.{counted, count_below}
use Rattle.survey_components.specs.Labels.{picked_in}
use Rattle.closed_core.specs.Alone.{listed}
use Rattle.closed_core.proofs.alone.list_picked.Given as goal

abbrev pub invariant-loop-e : goal.invariant-loop-e
invariant-loop-e l =
    ((l.e ≤ length l.firsts) × (l.count ≡ count_below l.e (picked_in l.picked)))
    × (l.starts ≡ listed (picked_in l.picked) (λ e. get_or l.firsts e 0) l.e l.initial.starts)
    × (l.ends ≡ listed (picked_in l.picked) (λ e. get_or l.seconds e 0) l.e l.initial.ends)
    × (l.prices ≡ listed (picked_in l.picked) (λ e. get_or l.weights e 0) l.e l.initial.prices)
    × (l.ones ≡ listed (picked_in l.picked) (λ e. counted (picked_in l.picked e) 1) l.e l.initial.ones)
