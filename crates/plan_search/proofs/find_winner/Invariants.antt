-- `find_winner` meets its contract: before block b it has what the passes have.
use Prim.Native.Nat.{◌-◌}
use Rattle.plan_search.specs.Tables.{tables_from}
use Rattle.plan_search.specs.Between.{winner_in}
use Rattle.plan_search.proofs.Laws.Loops.{BeforeBlock}
use Rattle.plan_search.proofs.find_winner.Given as goal

abbrev pub invariant-loop-b : goal.invariant-loop-b
invariant-loop-b l =
    BeforeBlock (tables_from l.firsts l.seconds l.weights l.labels l.loads l.flags) l.capped l.initial.keys l.initial.floors l.blocks l.b l.limit (winner_in l.best) l.keys l.floors

abbrev pub decreases-loop-b : goal.decreases-loop-b
decreases-loop-b l =
    l.blocks - l.b
