-- `table_room`: so many zeros.
use Rattle.std.proofs.Common.{ℕ}
use lib.ListN.{length-replicate}
use Rattle.text_table.specs.TrackTable.{table_room}
use Rattle.table.proofs.table_room.Goals as goal

pub returns : goal.returns
returns c = length-replicate {A = ℕ} table_room 0
