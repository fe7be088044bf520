-- `plan_buffer`: so many zeros.
use Prim.Native.Nat.{ℕ}
use lib.ListN.{length-replicate}
use Rattle.base_limits.specs.Limits.{plan_room}
use Rattle.format_print.proofs.plan.plan_buffer.Goals as goal

pub returns : goal.returns
returns c = length-replicate {A = ℕ} plan_room 0
