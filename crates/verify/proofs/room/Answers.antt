-- `room`: so many zeros.
use Rattle.std.proofs.Common.{ℕ}
use lib.ListN.{length-replicate}
use Rattle.base_limits.specs.Limits.{verify_room}
use Rattle.verify.proofs.room.Goals as goal

pub returns : goal.returns
returns c = length-replicate {A = ℕ} verify_room 0
