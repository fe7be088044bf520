-- `bit_groups` meets its contract: it stores at rising places.
use mathlib.Core.Path.{◌≡◌}
use lib.ListN.{get_or, replicate}
use Rattle.base_limits.specs.Limits.{max_vertices}
use Rattle.base_buffer.specs.Store.{remade}
use Rattle.winter_core.specs.Bit.{bit_group}
use Rattle.winter_core.proofs.bit.bit_groups.Given as goal

abbrev pub invariant-loop-v : goal.invariant-loop-v
invariant-loop-v l =
    l.room ≡ remade (λ v x. bit_group l.strengths l.bit (get_or l.groups v 0)) l.v (replicate max_vertices 0)
