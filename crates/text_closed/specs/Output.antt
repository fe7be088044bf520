-- What the program `closed` prints for a text and a list of tracks (document 02, No. 12): reading, planning with each track closed, and printing, one after the
-- other, for every text and list.
use Rattle.std.specs.Prelude.{ℕ, ◌*◌, List, length, replicate}
use Rattle.base_limits.specs.Verdict.{Outcome, refusal, answer}
use Rattle.base_limits.specs.declared.Verdict.{Verdict}
use Rattle.base_limits.specs.declared.Verdict.TheVariants.{Fine, Refused}
use Rattle.format_survey.specs.Reading.{SurveyText}
use Rattle.format_write.specs.Text.{refusal_text}
use Rattle.format_print.specs.RowText.{row_lines}
use Rattle.survey_core.specs.Survey.{Survey, survey_with}
use Rattle.closed_rule.specs.Closed.{max_closed, row_figures, closed_refusal, result_after}
use Rattle.text_plan.specs.Output.{survey_read}

-- room for the rows of every list that is not refused, in which nothing stands
abbrev pub no_rows : List ℕ
no_rows = replicate (row_figures * max_closed) 0

-- A line for each row, or 'for a refusal two lines' (document 01).
unfoldable pub lines_for : Verdict → (tracks result : List ℕ) → List ℕ
lines_for Fine tracks result = row_lines tracks result
lines_for (Refused number place) tracks result = refusal_text number place

-- What is printed for a survey, and for a text.
unfoldable pub survey_lines : Survey → (tracks : List ℕ) → List ℕ
survey_lines s tracks = lines_for (closed_refusal s (length tracks) (length no_rows)) tracks (result_after s tracks no_rows)

unfoldable pub read_lines : Outcome SurveyText → (tracks : List ℕ) → List ℕ
read_lines (refusal number place) tracks = refusal_text number place
read_lines (answer s) tracks = survey_lines (survey_with s.groups s.firsts s.seconds s.weights s.owners s.others) tracks

unfoldable pub closed_output : List ℕ → (tracks : List ℕ) → List ℕ
closed_output t tracks = read_lines (survey_read t) tracks
