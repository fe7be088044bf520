-- Also lines read by computation, for three junctions of groups 1, 1 and 0 and room for three pairs.
use Rattle.std.specs.Prelude.{ℕ, ◌≡◌, refl, List, [], ◌∷◌}
use Rattle.base_limits.specs.Verdict.{refuse_if, ◌before◌}
use Rattle.format_write.specs.Key.{ascii}
use Rattle.format_write.specs.Decimal.{spelled_after}
use Rattle.format_read.specs.Number.{class_of, is_digit, digits_end, numeral_end, numeral_at, number_at, number_to}
use Rattle.format_read.specs.Bytes.{byte_is, fixed_at}
use Rattle.format_read.specs.Items.{items_from}
use Rattle.format_read.specs.Lines.{following}
use Rattle.format_read.specs.Step.{Step, found, refused, ◌then◌, checked}
use Rattle.format_also.specs.Pair.{rank, pair_at, also_test, also_line, also_reader, also_at, pairs_counted}

-- What the lines of a text answer.
abbrev said : List ℕ → Step ℕ
said t = pairs_counted (also_at t (1 ∷ 1 ∷ 0 ∷ []) 3 0)

-- Three pairs; 17 before 18, at the junction; 18 at the second of two equal pairs, and where the group is the junction's own; 7 at the fourth
-- pair; 16 at a fourth digit, and at a leading 0.
pub also_examples : ◌≡◌ {A = List (Step ℕ)}
    (
    said (ascii "also=0,2\nalso=0,3\nalso=2,1\nlink=")
    ∷ said (ascii "also=9,256\n")
    ∷ said (ascii "also=0,2\nalso=0,2\n")
    ∷ said (ascii "also=0,1\n")
    ∷ said (ascii "also=0,2\nalso=0,3\nalso=0,4\nalso=0,5\n")
    ∷ said (ascii "also=1000,2\n")
    ∷ said (ascii "also=0,02\n")
    ∷ []
    )
    (found 3 27 ∷ refused 17 9 ∷ refused 18 1 ∷ refused 18 0 ∷ refused 7 0 ∷ refused 16 8 ∷ refused 16 8 ∷ [])
unfolding refuse_if ◌before◌ spelled_after class_of is_digit digits_end numeral_end numeral_at number_at number_to byte_is fixed_at items_from following ◌then◌
    checked rank pair_at also_test also_line also_reader also_at pairs_counted
also_examples = refl
