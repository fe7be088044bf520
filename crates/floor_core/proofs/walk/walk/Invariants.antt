-- `walk` meets its contract: one vertex of the queue after the other, until the root is found or none is left.
use Prim.Native.Nat.{◌-◌}
use Rattle.base_limits.specs.Limits.{max_vertices}
use Rattle.floor_core.specs.Laws.Walk.{Walks}
use Rattle.floor_core.proofs.walk.walk.Given as goal

abbrev pub invariant-loop-i : goal.invariant-loop-i
invariant-loop-i l = Walks l.tops l.links l.rests l.initial.flags l.initial.found l.initial.rim l.i l.flags l.found l.rim l.seen.vertices l.seen.arcs

abbrev pub decreases-loop-i : goal.decreases-loop-i
decreases-loop-i l = max_vertices - l.i
