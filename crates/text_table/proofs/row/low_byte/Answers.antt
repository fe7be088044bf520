-- `low_byte` meets its contract: the library has the same bytes, lowest first.
use native.Mathlib.Omega.{arith}
use Rattle.std.specs.Prelude.{ℕ, ◌/◌, ◌≡◌, List, get_or}
use Rattle.std.proofs.Common.{ap, ◌∙◌}
use Rattle.std.specs.Int.{to_le_bytes}
use mir.Syntax.{w32}
use Rattle.format_record.specs.Bits.{low_bytes}
use Rattle.text_table.specs.TrackTable.{number_bytes}
use Rattle.text_table.proofs.row.low_byte.Goals as goal

same_bytes : (x : ℕ) → to_le_bytes w32 x ≡ low_bytes number_bytes x
unfolding low_bytes
same_bytes x =
    let two : x / 65536 ≡ x / 256 / 256 = omega arith in
    let three : x / 16777216 ≡ x / 256 / 256 / 256 = omega arith in
    rw (two, three)

pub returns : goal.returns
returns c = c.at.ensures ∙ ap (λ (l : List ℕ). get_or l c.args.j 0) (c.to_le_bytes.ensures ∙ same_bytes c.args.x)
