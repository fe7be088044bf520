-- `format_read::fixed_from` meets its contract: the bytes that are left are read where the loop stands.
use mathlib.Core.Path.{◌≡◌}
use lib.ListN.{drop}
use Rattle.format_read.specs.Bytes.{fixed_at}
use Rattle.format_read.proofs.fixed_from.Given as goal

abbrev pub invariant-loop-b : goal.invariant-loop-b
invariant-loop-b l = fixed_at (drop l.b-index l.bytes) l.text l.at ≡ fixed_at l.bytes l.text l.initial.at
