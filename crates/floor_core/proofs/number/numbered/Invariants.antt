-- `numbered` meets its contract: it stores at rising places.
use mathlib.Core.Path.{◌≡◌}
use lib.ListN.{get_or, replicate}
use Rattle.base_buffer.specs.Store.{remade}
use Rattle.base_limits.specs.Limits.{max_vertices}
use Rattle.floor_rule.specs.Number.{number_of}
use Rattle.floor_core.proofs.number.numbered.Given as goal

abbrev pub invariant-loop-v : goal.invariant-loop-v
invariant-loop-v l =
    l.room ≡ remade (λ u x. number_of l.poured l.groups l.owners l.others (get_or l.poured u 0)) l.v (replicate max_vertices 0)
