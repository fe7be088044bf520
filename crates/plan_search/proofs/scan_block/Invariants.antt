-- `scan_block` meets its contract: before edge e it has what the scan has.
use Rattle.plan_search.specs.Tables.{tables_from}
use Rattle.plan_search.specs.Between.{winner_in}
use Rattle.plan_search.proofs.Laws.Loops.{Scanning}
use Rattle.plan_search.proofs.scan_block.Given as goal

abbrev pub invariant-loop-e : goal.invariant-loop-e
invariant-loop-e l =
    Scanning (tables_from l.firsts l.seconds l.weights l.labels l.loads l.flags) l.time (winner_in l.initial.winner) l.initial.keys l.from l.to l.e l.limit l.low (winner_in l.winner) l.keys
