-- `strengths_refusal` meets its contract: the length, then a scan of the strengths.
use Prim.Native.Nat.{◌+◌}
use lib.ListN.{get_or}
use Rattle.base_limits.specs.Laws.Verdict.{Scanned}
use Rattle.winter_rule.specs.Winter.{strength_count, strength_refusal}
use Rattle.winter_core.proofs.refusal.strengths_refusal.Given as goal

abbrev pub invariant-loop-i : goal.invariant-loop-i
invariant-loop-i l =
    Scanned strength_count (λ i. strength_refusal (get_or l.strengths i 0) (i + 1)) l.i
