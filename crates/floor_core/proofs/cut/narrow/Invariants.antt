-- `narrow` meets its contract: one arc at the rim after the other.
use Prim.Native.Nat.{◌≤◌}
use Rattle.floor_core.specs.Laws.Rim.{Narrows}
use Rattle.floor_core.proofs.cut.narrow.Given as goal

abbrev pub invariant-loop-j : goal.invariant-loop-j
invariant-loop-j l = (l.found.arcs ≤ l.j) × Narrows l.links l.flags l.initial.rim l.arcs l.rests l.cap l.j l.found.least l.found.arcs l.rim
