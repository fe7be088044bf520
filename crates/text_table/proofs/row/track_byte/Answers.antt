-- `track_byte` meets its contract: the track of a byte, and its place there.
use Rattle.text_table.specs.TrackTable.{track_byte}
use Rattle.text_table.proofs.row.track_byte.Goals as goal

pub returns : goal.returns
unfolding track_byte
returns c = rw (← c.at.ensures, ← c.at-2.ensures, ← c.at-3.ensures) c.row_byte.ensures
