-- `prices` meets its contract: it stores at rising places.
use mathlib.Core.Path.{◌≡◌}
use lib.ListN.{get_or, replicate}
use Rattle.base_buffer.specs.Store.{remade}
use Rattle.floor_rule.specs.Ascent.{max_arcs, edge_of}
use Rattle.floor_core.proofs.arcs.prices.Given as goal

abbrev pub invariant-loop-a : goal.invariant-loop-a
invariant-loop-a l = l.rests ≡ remade (λ b rest. get_or l.weights (edge_of l.firsts b) 0) l.a (replicate max_arcs 0)
