-- `lowest` meets its contract: whatever the calls answer, no place below i is refused.
use Rattle.std.specs.Prelude.{ℕ, ◌<◌, ◌≡◌}
use Rattle.base_limits.specs.declared.Verdict.{Verdict}
use Rattle.base_limits.specs.Laws.Verdict.{Scanned}
use Rattle.check_core.proofs.scan.lowest.Given as goal

abbrev pub invariant-loop-i : goal.invariant-loop-i
invariant-loop-i g l =
    (f : ℕ → Verdict) → ((i : ℕ) (v : Verdict) → i < l.n → g.F.Fn.post l.refusal (i, tt) v → v ≡ f i) → Scanned l.n f l.i
