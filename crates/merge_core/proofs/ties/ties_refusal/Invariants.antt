-- `ties_refusal` meets its contract: 2, or a scan of the ties.
use lib.ListN.{length}
use Rattle.base_limits.specs.Laws.Verdict.{Scanned}
use Rattle.merge_rule.specs.Ties.{ties_from}
use Rattle.merge_rule.specs.Refusal.{tie_refusal}
use Rattle.merge_core.proofs.ties.ties_refusal.Given as goal

abbrev pub invariant-loop-i : goal.invariant-loop-i
invariant-loop-i l = Scanned (length l.firsts) (tie_refusal l.n l.m (ties_from l.firsts l.seconds)) l.i
