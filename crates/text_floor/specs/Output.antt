-- What the program `floor` prints for a text: reading, planning, the floor, and printing, one after the other, for every text.
use Rattle.std.specs.Prelude.{ℕ, List, ◌++◌}
use Rattle.base_limits.specs.Verdict.{Outcome, refusal, answer}
use Rattle.format_survey.specs.Reading.{SurveyText}
use Rattle.format_write.specs.Key.{ascii, cost_key}
use Rattle.format_write.specs.Text.{line_of, refusal_text}
use Rattle.survey_core.specs.Survey.{Survey, survey_with}
use Rattle.floor_rule.specs.Floor.{FloorCounts, flooring}
use Rattle.text_plan.specs.Output.{survey_read}
use Rattle.text_floor.specs.Gap.{gap_of}

unfoldable pub floor_key : List ℕ
floor_key = ascii "floor="

unfoldable pub gap_key : List ℕ
gap_key = ascii "gap="

-- Three lines: the floor, what the plan costs, and how far it may be above the cheapest.
unfoldable pub floor_lines : (floor cost : ℕ) → List ℕ
floor_lines floor cost = line_of floor_key floor ++ line_of cost_key cost ++ line_of gap_key (gap_of floor cost)

-- Those, or a refusal's two.
unfoldable pub floor_text : Outcome FloorCounts → List ℕ
floor_text (refusal number place) = refusal_text number place
floor_text (answer f) = floor_lines f.floor f.cost

-- What is printed for a survey, and for a text.
unfoldable pub survey_floor : Survey → List ℕ
survey_floor s = floor_text (flooring s)

unfoldable pub read_floor : Outcome SurveyText → List ℕ
read_floor (refusal number place) = refusal_text number place
read_floor (answer s) = survey_floor (survey_with s.groups s.firsts s.seconds s.weights s.owners s.others)

unfoldable pub floor_output : List ℕ → List ℕ
floor_output t = read_floor (survey_read t)
