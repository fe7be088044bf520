-- `format_stp::free::opens` meets its contract: one of the numbers reaches, or none does.
use Prim.Native.Nat.{◌+◌, ◌≤◌}
use mathlib.Core.Bool.{false}
use mathlib.Core.Path.{◌≡◌}
use Rattle.base_finite.specs.Below.{any_below}
use Rattle.format_stp.specs.StpNumber.{is_free, reaches}
use Rattle.format_stp.proofs.free.opens.Given as goal

abbrev pub invariant-loop-i : goal.invariant-loop-i
invariant-loop-i l = (l.i ≤ l.high) × (any_below l.i (λ j. reaches (is_free l.groups l.low l.high) l.more l.x (j + 1)) ≡ false)
