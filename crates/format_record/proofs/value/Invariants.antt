-- `value`: read from the highest byte down, what is read is the number that the bytes from i on spell.
use Prim.Native.Nat.{◌-◌}
use mathlib.Core.Path.{◌≡◌}
use lib.ListN.{take, drop}
use Rattle.format_record.specs.Bits.{number_of}
use Rattle.format_record.proofs.value.Given as goal

abbrev pub invariant-loop-i : goal.invariant-loop-i
invariant-loop-i l = l.x ≡ number_of (take (8 - l.i) (drop l.i l.part))
