-- `first_shares` meets its contract: it stores at rising places.
use mathlib.Core.Path.{◌≡◌}
use lib.ListN.{replicate}
use Rattle.base_finite.specs.Below.{counted}
use Rattle.base_buffer.specs.Store.{remade}
use Rattle.base_limits.specs.Limits.{group_numbers}
use Rattle.floor_rule.specs.Ascent.{max_cost, in_company}
use Rattle.floor_core.proofs.shares.first_shares.Given as goal

abbrev pub invariant-loop-l : goal.invariant-loop-l
invariant-loop-l l = l.share ≡ remade (λ g x. counted (in_company l.groups g) max_cost) l.l (replicate group_numbers 0)
