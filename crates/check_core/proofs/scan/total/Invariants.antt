-- `total` meets its contract: whatever the calls answer, the sum is that of the values of the records below i, and small.
use Rattle.std.specs.Prelude.{ℕ, ◌*◌, ◌/◌, ◌<◌, ◌≤◌, ◌≡◌, length}
use Rattle.std.specs.Fn.{FnReturnsAt}
use Rattle.base_finite.specs.Below.{sum_below}
use Rattle.base_limits.specs.Limits.{record_bytes, max_value}
use Rattle.format_record.specs.Record.{record_at}
use Rattle.check_core.proofs.scan.total.Given as goal

abbrev pub invariant-loop-i : goal.invariant-loop-i
invariant-loop-i g l =
    (l.sum ≤ l.i * max_value)
    × ((f : ℕ → ℕ) → ((i x : ℕ) → i < length l.records / record_bytes → FnReturnsAt g.F.Fn l.value (record_at l.records i) x → x ≡ f i) → l.sum ≡ sum_below l.i f)
