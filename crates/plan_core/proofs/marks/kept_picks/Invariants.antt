-- `kept_picks` meets its contract: it stores at rising places.
use mathlib.Core.Path.{◌≡◌}
use lib.ListN.{replicate}
use Rattle.base_finite.specs.Below.{counted}
use Rattle.base_limits.specs.Limits.{max_edges}
use Rattle.base_buffer.specs.Store.{remade}
use Rattle.survey_components.specs.Labels.{picked_in}
use Rattle.plan_core.proofs.marks.kept_picks.Given as goal

abbrev pub invariant-loop-e : goal.invariant-loop-e
invariant-loop-e l =
    l.picks ≡ remade (λ e x. counted (picked_in l.marks e) 2) l.e (replicate max_edges 0)
