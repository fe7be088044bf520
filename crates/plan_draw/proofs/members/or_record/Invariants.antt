-- `or_record` meets its contract: it stores at rising places.
use mathlib.Core.Path.{◌≡◌}
use lib.Bits.{bit_or}
use lib.ListN.{get_or}
use Rattle.base_buffer.specs.Store.{remade}
use Rattle.plan_draw.proofs.members.or_record.Given as goal

abbrev pub invariant-loop-i : goal.invariant-loop-i
invariant-loop-i l = l.part ≡ remade (λ j b. bit_or b (get_or l.other j 0)) l.i l.initial.part
