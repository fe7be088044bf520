-- `look` meets its contract: one arc after the other, from the last on.
use Prim.Native.Nat.{◌+◌, ◌≤◌}
use Rattle.base_limits.specs.Limits.{max_vertices}
use Rattle.floor_rule.specs.Ascent.{max_arcs}
use Rattle.floor_core.specs.Laws.Walk.{TurnsFrom}
use Rattle.floor_core.proofs.walk.look.Given as goal

abbrev pub invariant-loop-x : goal.invariant-loop-x
invariant-loop-x l =
    (l.x ≤ l.last) × (l.seen.vertices + l.x ≤ max_vertices + l.last) × (l.seen.arcs + l.x ≤ max_arcs + l.last)
    × TurnsFrom l.links l.rests l.last l.initial.flags l.initial.found l.initial.rim l.initial.seen.vertices l.initial.seen.arcs l.x l.flags l.found l.rim l.seen.vertices l.seen.arcs

abbrev pub decreases-loop-x : goal.decreases-loop-x
decreases-loop-x l = l.x
