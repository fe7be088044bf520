-- A moat record as the dual that it is (document 01, 'What a plan holds').
use Rattle.std.specs.Prelude.{ℕ, List}
use Rattle.format_record.specs.Record.{value_in, member_in}
use Rattle.theory_steiner.specs.Dual.{Dual}

-- The dual that the bytes of one record draw.
abbrev pub dual_of_record : List ℕ → Dual
dual_of_record part = record { value = value_in part; holds = member_in part }
