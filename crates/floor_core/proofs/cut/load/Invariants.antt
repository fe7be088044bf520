-- `load` meets its contract: one arc at the rim after the other.
use Rattle.floor_core.specs.Laws.Rim.{Loads}
use Rattle.floor_core.proofs.cut.load.Given as goal

abbrev pub invariant-loop-j : goal.invariant-loop-j
invariant-loop-j l = Loads l.rim l.arcs l.initial.rests l.d l.j l.rests
