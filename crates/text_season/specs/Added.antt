-- The survey at the front of a text, added to a report (document 02, No. 11): texts stand one after the other, and each
-- ends where its last line ends. Reading's refusal has its place from the first byte of that text; the season's own 3
-- stands at 0.
use Rattle.std.specs.Prelude.{ℕ, cond, List, length, ltb}
use Rattle.base_limits.specs.declared.Verdict.{Verdict}
use Rattle.base_limits.specs.declared.Verdict.TheVariants.{Fine, Refused}
use Rattle.format_write.specs.Text.{refusal_text}
use Rattle.format_read.specs.Step.{Step, found, refused}
use Rattle.format_survey.specs.Line.{widest}
use Rattle.format_survey.specs.Reading.{SurveyText}
use Rattle.survey_core.specs.Survey.{Survey}
use Rattle.check_printed.specs.Verify.{prefix_at, survey_in}
use Rattle.season_rule.specs.declared.Report.{Report}
use Rattle.season_rule.specs.Figures.{figures}
use Rattle.season_rule.specs.Report.{season_refusal, add_survey}
use Rattle.season_rule.specs.Text.{report_text}
use Rattle.text_season.specs.declared.TextAdded.{TextAdded}

-- A text that reading refuses leaves the report unchanged, and no byte of it is used.
unfoldable pub text_refused : Report → (number place : ℕ) → TextAdded
text_refused r number place = record { verdict = Refused number place; used = 0; report = r }

-- A survey of so many bytes: the season's verdict, and the report with it.
unfoldable pub survey_added : Report → (used : ℕ) → Survey → TextAdded
survey_added r used s = record { verdict = season_refusal r (figures s); used = used; report = add_survey r s }

unfoldable pub added_from : Report → Step SurveyText → TextAdded
added_from r (refused number place) = text_refused r number place
added_from r (found s at) = survey_added r at (survey_in s)

unfoldable pub text_added : Report → List ℕ → TextAdded
text_added r t = added_from r (prefix_at widest t)

-- ---- what is printed

-- The report over all texts, or the refusal's two lines and nothing else.
unfoldable pub answer_text : Verdict → Report → List ℕ
answer_text Fine r = report_text r
answer_text (Refused number place) r = refusal_text number place

-- How many bytes of a buffer that are: none where the text does not fit, which in `report_room` bytes never occurs (laws
-- `report_text_le`, `longest_report`).
unfoldable pub printed_bytes : (text out : List ℕ) → ℕ
printed_bytes text out = cond (ltb (length out) (length text)) 0 (length text)
