-- What the program `why` prints for a text and a track number (document 02, No. 3): reading, asking and printing, one after the other, for every text and number.
use Rattle.std.specs.Prelude.{ℕ, ◌<◌, ◌^◌, List}
use Rattle.base_limits.specs.Limits.{count_digits, max_route}
use Rattle.base_limits.specs.Verdict.{Outcome, refusal, answer, outcome}
use Rattle.format_read.specs.Step.{Step, found, ◌then◌}
use Rattle.format_read.specs.Bytes.{end_at}
use Rattle.format_read.specs.Number.{number_at}
use Rattle.format_survey.specs.Reading.{SurveyText}
use Rattle.format_write.specs.Text.{refusal_text}
use Rattle.format_why.specs.ReasonText.{reason_text}
use Rattle.survey_core.specs.Survey.{Survey, survey_with}
use Rattle.why_rule.specs.Reason.{Reason, reason_of}
use Rattle.why_rule.specs.Why.{WhyCounts, why_refusal, why_counts, route_in}
use Rattle.text_plan.specs.Output.{survey_read}

-- A word that is a number of at most as many digits as a count has, and nothing else.
unfoldable pub track_at : List ℕ → Step ℕ
track_at word = number_at count_digits word 0 then λ n p. end_at word p then λ z q. found n q

-- The reason for a track of a survey, or the refusal, where there is room for every route.
unfoldable pub survey_reason : Survey → (e : ℕ) → Outcome Reason
survey_reason s e = outcome (why_refusal s max_route e) (reason_of s e)

-- The reason for a track of what was read.
unfoldable pub read_reason : Outcome SurveyText → (e : ℕ) → Outcome Reason
read_reason (refusal number place) e = refusal number place
read_reason (answer s) e = survey_reason (survey_with s.groups s.firsts s.seconds s.weights s.owners s.others) e

-- The numbers of a reason that 64 bits hold.
pub record ReasonCountsFit (c : WhyCounts) : Type 0 where
  pub kind_fits : c.kind < 2 ^ 64
  pub group_fits : c.group < 2 ^ 64
  pub low_fits : c.low < 2 ^ 64
  pub high_fits : c.high < 2 ^ 64
  pub round_fits : c.round < 2 ^ 64

-- What is printed: the reason in the numbers of a call, or 'for a refusal two lines' (document 01).
unfoldable pub reason_lines : (e : ℕ) → Outcome Reason → List ℕ
reason_lines e (refusal number place) = refusal_text number place
reason_lines e (answer r) = let c = why_counts r in reason_text e c.kind c.group c.low c.high c.round (route_in r)

-- What is printed for a survey, and for a text.
unfoldable pub survey_lines : Survey → (e : ℕ) → List ℕ
survey_lines s e = reason_lines e (survey_reason s e)

unfoldable pub why_output : List ℕ → (e : ℕ) → List ℕ
why_output t e = reason_lines e (read_reason (survey_read t) e)
