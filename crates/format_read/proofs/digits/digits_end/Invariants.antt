-- `format_read::digits::digits_end` meets its contract: what is left of the digits ends where all of them end.
use Prim.Native.Nat.{◌-◌}
use mathlib.Core.Path.{◌≡◌}
use Rattle.format_read.specs.Number.{digits_end}
use Rattle.format_read.proofs.digits.digits_end.Given as goal

abbrev pub invariant-loop : goal.invariant-loop
invariant-loop l = digits_end (l.limit - l.counter) l.text l.end ≡ digits_end l.limit l.text l.at
