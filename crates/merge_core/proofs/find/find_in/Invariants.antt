-- `find_in` meets its contract: a scan of the list.
use lib.ListN.{get_or}
use lib.Dec.{eqb}
use Rattle.theory_route.proofs.Laws.First.{Unmet}
use Rattle.merge_core.proofs.find.find_in.Given as goal

abbrev pub invariant-loop-i : goal.invariant-loop-i
invariant-loop-i l = Unmet l.count (λ i. eqb (get_or l.list i 0) l.x) l.i
