-- The table of two tracks, by computation: from 0 to 1 at 3, and from 1 to 447 at 100,000,000.
use Rattle.std.specs.Prelude.{◌≡◌, refl, [], ◌∷◌}
use Rattle.base_finite.specs.Below.{tabulate}
use Rattle.format_record.specs.Bits.{low_bytes}
use Rattle.text_table.specs.TrackTable.{track_row, track_byte, track_table}

pub two_tracks : track_table (0 ∷ 1 ∷ []) (1 ∷ 447 ∷ []) (3 ∷ 100000000 ∷ [])
    ≡ 0 ∷ 0 ∷ 0 ∷ 0 ∷ 1 ∷ 0 ∷ 0 ∷ 0 ∷ 3 ∷ 0 ∷ 0 ∷ 0 ∷ 1 ∷ 0 ∷ 0 ∷ 0 ∷ 191 ∷ 1 ∷ 0 ∷ 0 ∷ 0 ∷ 225 ∷ 245 ∷ 5 ∷ []
unfolding track_table track_byte track_row low_bytes tabulate
two_tracks = refl
