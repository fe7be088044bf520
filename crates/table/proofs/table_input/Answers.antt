-- `table_input`: so many zeros.
use Rattle.std.proofs.Common.{ℕ}
use lib.ListN.{length-replicate}
use Rattle.std.proofs.Common.{◌+◌}
use Rattle.format_table.specs.Table.{track_bytes}
use Rattle.text_table.specs.TrackTable.{table_room}
use Rattle.table.proofs.table_input.Goals as goal

pub returns : goal.returns
returns c = length-replicate {A = ℕ} (table_room + track_bytes) 0
