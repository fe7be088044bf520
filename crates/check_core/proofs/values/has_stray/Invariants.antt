-- `has_stray` meets its contract: while it runs, nothing below v is stray.
use Prim.Native.Nat.{◌≤◌, ◌*◌}
use mathlib.Core.Path.{◌≡◌}
use mathlib.Core.Bool.{◌&&◌, false}
use lib.Dec.{leb}
use Rattle.base_finite.specs.Below.{any_below}
use Rattle.base_limits.specs.Limits.{member_bytes}
use Rattle.format_record.specs.Record.{member_in}
use Rattle.check_core.proofs.values.has_stray.Given as goal

abbrev pub invariant-loop-v : goal.invariant-loop-v
invariant-loop-v l = (l.v ≤ 8 * member_bytes) × (any_below l.v (λ v. leb l.n v && member_in l.part v) ≡ false)
