-- `chain` meets its contract: one arc after the other.
use Rattle.floor_core.specs.Chain.{Chained}
use Rattle.floor_core.proofs.chain.chain.Given as goal

abbrev pub invariant-loop-a : goal.invariant-loop-a
invariant-loop-a l = Chained l.firsts l.seconds l.a l.tops l.links
