-- `room`: so many zeros.
use Rattle.std.proofs.Common.{ℕ}
use lib.ListN.{length-replicate}
use Rattle.std.proofs.Common.{◌+◌}
use Rattle.text_stp.specs.StpOutput.{stp_room}
use Rattle.stp.proofs.room.Goals as goal

pub returns : goal.returns
returns c = length-replicate {A = ℕ} (stp_room + 1) 0
