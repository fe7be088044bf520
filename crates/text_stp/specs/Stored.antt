-- What is printed of the answer of reading an STP text and of the buffers that it was lent.
use Rattle.std.specs.Prelude.{ℕ, ◌^◌, ◌<◌, List, [], take}
use Rattle.base_limits.specs.Verdict.{Outcome, refusal, answer}
use Rattle.format_write.specs.Text.{refusal_text}
use Rattle.format_print.specs.declared.Printed.{Printed}
use Rattle.format_print.specs.Print.{printed, printed_out}
use Rattle.format_survey.specs.Line.{SurveyCounts}
use Rattle.format_survey.specs.Reading.{SurveyText}
use Rattle.format_survey_print.specs.Print.{survey_of_lists, survey_printed, survey_printed_out}

-- The survey of the first groups and tracks in the buffers.
abbrev pub stored_survey : SurveyCounts → (groups firsts seconds weights : List ℕ) → SurveyText
stored_survey c groups firsts seconds weights = survey_of_lists (take c.vertices groups) (take c.edges firsts) (take c.edges seconds) (take c.edges weights) [] []

-- What printing it, or the refusal's lines, answers, and what it leaves.
unfoldable pub stored_printed : Outcome SurveyCounts → (groups firsts seconds weights out : List ℕ) → Printed
stored_printed (refusal number place) groups firsts seconds weights out = printed (refusal_text number place) out
stored_printed (answer c) groups firsts seconds weights out = survey_printed (stored_survey c groups firsts seconds weights) out

unfoldable pub stored_printed_out : Outcome SurveyCounts → (groups firsts seconds weights out : List ℕ) → List ℕ
stored_printed_out (refusal number place) groups firsts seconds weights out = printed_out (refusal_text number place) out
stored_printed_out (answer c) groups firsts seconds weights out = survey_printed_out (stored_survey c groups firsts seconds weights) out

-- The numbers of a refusal are words of 64 bits.
pub data StoredWords : Outcome SurveyCounts → Type 0 where
  unread_words : {number place : ℕ} → number < 2 ^ 64 → place < 2 ^ 64 → StoredWords (refusal number place)
  read_words : {c : SurveyCounts} → StoredWords (answer c)
