-- `bound` meets its contract: the sum of the values of all records.
use Prim.Native.Nat.{ℕ, ◌<◌, ◌≤◌, ◌/◌}
use native.Mathlib.Omega.{arith}
use borrow.Author.Rules.{rules}
use mathlib.Core.Bool.{true}
use mathlib.Core.Path.{◌≡◌}
use mathlib.Core.List.{List}
use lib.ListN.{length}
use Rattle.base_finite.specs.Below.{counted}
use Rattle.base_limits.specs.Limits.{record_bytes, max_value}
use Rattle.format_record.specs.Record.{record_at, value_in}
use Rattle.theory_steiner.specs.Dual.{total}
use Rattle.check_core.specs.Moats.{DualsFit}
use Rattle.check_core.specs.Laws.Duals.{weighed_at, weigh_end}
use Rattle.check_core.proofs.duals.bound.Goals as goal

small_at : (records : List ℕ) (i : ℕ) {x : ℕ} → DualsFit records → i < length records / record_bytes → x ≡ value_in (record_at records i) → x ≤ max_value
small_at records i fit b is = omega (arith, fit.small i b)

pub total-requires : goal.total-requires
total-requires c = record { callable = search rules; few = c.requires.few; small = λ i x b p. search (rules, small_at c.args.records.now i {x = x} c.requires b) }

pub returns : goal.returns
unfolding total counted
returns c =
    weigh_end c.args.records.now (λ S. true) (length c.args.records.now / record_bytes) (omega arith) (omega arith)
    (c.total.ensures (weighed_at c.args.records.now (λ S. true)) (λ i x b p. search rules))
