-- Laws of room: `survey_room` bytes hold every survey's text within the counts.
use Rattle.std.specs.Prelude.{ℕ, ◌≤◌, ◌≡◌, List, length}
use Rattle.std.proofs.Common.{arith, le-ltb, sym, ◌∙◌}
use Rattle.base_limits.specs.Limits.{survey_room}
use Rattle.base_limits.specs.Verdict.{answer, refuse_if}
use Rattle.format_print.specs.declared.Printed.TheVariants.{Length}
use Rattle.format_print.specs.Print.{print_refusal, answer_of, printed}
use Rattle.format_survey.specs.Line.{Lengths}
use Rattle.format_survey.specs.Reading.{SurveyText, reading}
use Rattle.format_survey.specs.WellFormed.{WithinCounts}
use Rattle.format_survey.proofs.Laws.Longest.{longest_within, longest_read}
use Rattle.format_survey_print.specs.Print.{edges_in, pairs_in, survey_text, survey_printed}
use Rattle.format_survey_print.specs.Laws.Print.{whole_answer}

-- It is never refused with 7.
pub survey_room_law : (s : SurveyText) (out : List ℕ) → length s.firsts ≡ length s.seconds → length s.firsts ≡ length s.weights → length s.owners ≡ length s.others
    → WithinCounts s.groups (pairs_in s) (edges_in s) → survey_room ≤ length out → survey_printed s out ≡ Length (length (survey_text s))
unfolding printed print_refusal refuse_if answer_of survey_text
survey_room_law s out same also pairs within room =
    let most = longest_within within in
    let fits : length (survey_text s) ≤ length out = omega arith in
    sym (whole_answer s out same also pairs) ∙ rw (le-ltb (length out) (length (survey_text s)) fits)

-- Whatever is read, the program `plan` reads whole.
pub read_fits : (t : List ℕ) (lent : Lengths) (s : SurveyText) → reading t lent ≡ answer s → length t ≤ survey_room
read_fits t lent s e = let most = longest_read t lent s e in omega arith
