-- `write_low`: what is left to store, on what is stored, makes the whole.
use Prim.Native.Nat.{◌-◌}
use mathlib.Core.Path.{◌≡◌}
use lib.Seq.{sets}
use Rattle.format_record.specs.Bits.{low_bytes}
use Rattle.format_record.proofs.write_low.Given as goal

abbrev pub invariant-loop-i : goal.invariant-loop-i
invariant-loop-i l = sets l.s l.i (low_bytes (l.count - l.i) l.rest) ≡ sets l.initial.s 0 (low_bytes l.count l.x)
