-- What the program `merge` prints for a text (document 02, No. 9): two survey texts one after the other, then the ties; the text of the survey that they become, or
-- 'for a refusal two lines' (document 01).
use Rattle.std.specs.Prelude.{ℕ, ◌+◌, ◌-◌, ◌^◌, min, cond, List, drop, eqb}
use Rattle.base_limits.specs.Limits.{max_vertices, max_edges, max_pairs}
use Rattle.base_limits.specs.Verdict.{Outcome, refusal, answer}
use Rattle.format_write.specs.Text.{refusal_text}
use Rattle.format_read.specs.Step.{Step, found, refused}
use Rattle.format_read.specs.Lines.{whole}
use Rattle.format_print.specs.declared.Printed.{Printed}
use Rattle.format_print.specs.Print.{printed, printed_out}
use Rattle.format_also.specs.Pair.{Pair, owners_of, others_of}
use Rattle.format_survey.specs.Line.{widest}
use Rattle.format_survey.specs.Reading.{SurveyText}
use Rattle.format_survey_print.specs.Print.{survey_of_lists, survey_text, survey_printed, survey_printed_out}
use Rattle.survey_core.specs.Survey.{Survey}
use Rattle.check_printed.specs.Verify.{prefix_at, survey_in}
use Rattle.merge_rule.specs.Ties.{Ties, ties_from}
use Rattle.merge_rule.specs.Merged.{merged}
use Rattle.merge_rule.specs.Refusal.{SurveyCounts, head_of, Room, room_from, merging}
use Rattle.text_merge.specs.Ties.{tie_lines}

-- ---- places

-- The sum of two offsets, as far as 64 bits go, which is farther than any text.
unfoldable pub reached : (at next : ℕ) → ℕ
reached at next = min (at + next) (2 ^ 64 - 1)

-- The place of a refusal of what begins at an offset: 16's counts from the first byte of the whole, the others name a track, a pair, a tie.
unfoldable pub moved_place : (number place at : ℕ) → ℕ
moved_place number place at = cond (eqb number 16) (reached at place) place

-- ---- what is printed

-- buffers that hold every result
abbrev pub widest_room : Room
widest_room = room_from max_vertices max_edges max_edges max_edges max_pairs max_pairs

-- A survey as reading says it.
abbrev pub said_by : Survey → SurveyText
said_by s = survey_of_lists s.groups s.firsts s.seconds s.weights s.owners s.others

unfoldable pub text_for : Outcome SurveyCounts → Survey → List ℕ
text_for (refusal number place) s = refusal_text number place
text_for (answer c) s = survey_text (said_by s)

unfoldable pub merged_text : (a b : Survey) → Ties → List ℕ
merged_text a b ties = text_for (merging a b ties widest_room) (merged a b ties)

-- For two surveys and the lines of the ties, which begin at an offset.
unfoldable pub ties_output : (a b : Survey) → (at : ℕ) → Step (List Pair) → List ℕ
ties_output a b at (refused number place) = refusal_text number (moved_place number place at)
ties_output a b at (found ties next) = merged_text a b (ties_from (owners_of ties) (others_of ties))

unfoldable pub ties_from_text : (a b : Survey) → (t : List ℕ) (at : ℕ) → List ℕ
ties_from_text a b t at = ties_output a b at (whole (tie_lines (drop at t)))

-- For the first survey and the second, whose text begins at an offset.
unfoldable pub second_output : (a : Survey) → (t : List ℕ) (at : ℕ) → Step SurveyText → List ℕ
second_output a t at (refused number place) = refusal_text number (moved_place number place at)
second_output a t at (found b next) = ties_from_text a (survey_in b) t (reached at next)

unfoldable pub second_from : (a : Survey) → (t : List ℕ) (at : ℕ) → List ℕ
second_from a t at = second_output a t at (prefix_at widest (drop at t))

unfoldable pub first_output : List ℕ → Step SurveyText → List ℕ
first_output t (refused number place) = refusal_text number place
first_output t (found a next) = second_from (survey_in a) t next

unfoldable pub merge_output : List ℕ → List ℕ
merge_output t = first_output t (prefix_at widest t)

-- ---- a result in buffers

-- What printing the survey at the head of six buffers, or the refusal's lines, answers, and what it leaves.
unfoldable pub stored_printed : Outcome SurveyCounts → (s : Survey) (out : List ℕ) → Printed
stored_printed (refusal number place) s out = printed (refusal_text number place) out
stored_printed (answer c) s out = survey_printed (said_by (head_of c s)) out

unfoldable pub stored_out : Outcome SurveyCounts → (s : Survey) (out : List ℕ) → List ℕ
stored_out (refusal number place) s out = printed_out (refusal_text number place) out
stored_out (answer c) s out = survey_printed_out (said_by (head_of c s)) out
