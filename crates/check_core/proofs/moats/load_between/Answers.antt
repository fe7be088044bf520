-- `load_between` meets its contract: the sum of the values of the records that part the two vertices.
use Prim.Native.Nat.{ℕ, ◌<◌, ◌≤◌, ◌/◌}
use native.Mathlib.Omega.{arith}
use borrow.Author.Rules.{rules}
use mathlib.Core.Bool.{Bool, xor}
use mathlib.Core.Path.{◌≡◌}
use mathlib.Core.List.{List}
use lib.ListN.{length}
use Rattle.base_finite.specs.Below.{counted}
use Rattle.base_finite.specs.Laws.Below.{counted_le}
use Rattle.base_limits.specs.Limits.{record_bytes, max_value}
use Rattle.format_record.specs.Record.{record_at, value_in}
use Rattle.check_core.specs.Moats.{DualsFit, load_between}
use Rattle.check_core.specs.Laws.Duals.{weighed_at, weigh_end}
use Rattle.check_core.proofs.moats.load_between.Goals as goal

small_at : (records : List ℕ) (i : ℕ) → DualsFit records → i < length records / record_bytes → (t : Bool) {x : ℕ} → x ≡ counted t (value_in (record_at records i)) → x ≤ max_value
small_at records i fit b t is = omega (arith, fit.small i b, counted_le t (value_in (record_at records i)))

pub total-requires : goal.total-requires
total-requires c = record { callable = search rules; few = c.requires.few; small = λ i x b p. search (rules, small_at c.args.records.now i c.requires b) }

pub returns : goal.returns
unfolding load_between
returns c =
    weigh_end c.args.records.now _ (length c.args.records.now / record_bytes) (omega arith) (omega arith)
    (c.total.ensures (weighed_at c.args.records.now (λ S. xor (S c.args.u) (S c.args.v))) (λ i x b p. search rules))
