-- `copy_record` meets its contract: it stores at rising places.
use Prim.Native.Nat.{◌≤◌}
use mathlib.Core.Path.{◌≡◌}
use lib.ListN.{get_or}
use Rattle.base_limits.specs.Limits.{record_bytes}
use Rattle.base_buffer.specs.Store.{remade}
use Rattle.plan_draw.proofs.record.copy_record.Given as goal

abbrev pub invariant-loop-i : goal.invariant-loop-i
invariant-loop-i l = (l.i ≤ record_bytes) × (l.part ≡ remade (λ j b. get_or l.set j 0) l.i l.initial.part)
