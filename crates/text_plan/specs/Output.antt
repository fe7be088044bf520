-- What the program `plan` prints for a text (document 01, 'The survey and the plan': it 'reads a survey on standard input and prints the plan'): reading,
-- planning and printing, one after the other, for every text.
use Rattle.std.specs.Prelude.{ℕ, List}
use Rattle.base_limits.specs.Limits.{max_edges, records_room}
use Rattle.base_limits.specs.Verdict.{Outcome, refusal, answer}
use Rattle.format_survey.specs.Line.{widest}
use Rattle.format_survey.specs.Reading.{SurveyText, reading}
use Rattle.format_write.specs.Text.{plan_text, refusal_text}
use Rattle.plan_rule.specs.Plan.{Plan, planning}
use Rattle.plan_draw.specs.Drawing.{records_of}
use Rattle.survey_core.specs.Survey.{Survey, survey_with}

-- The survey that a text says, or the refusal, where there is room for every survey within the limits.
unfoldable pub survey_read : List ℕ → Outcome SurveyText
survey_read t = reading t widest

-- The plan of a survey, or the refusal, where there is room for every plan.
unfoldable pub survey_plan : Survey → Outcome Plan
survey_plan s = planning s max_edges records_room

-- The plan of what was read.
unfoldable pub read_plan : Outcome SurveyText → Outcome Plan
read_plan (refusal number place) = refusal number place
read_plan (answer s) = survey_plan (survey_with s.groups s.firsts s.seconds s.weights s.owners s.others)

-- The plan of the survey that a text says: what reading and planning come to.
unfoldable pub text_plan : List ℕ → Outcome Plan
text_plan t = read_plan (survey_read t)

-- What is printed: the plan, or 'for a refusal two lines'.
unfoldable pub outcome_text : Outcome Plan → List ℕ
outcome_text (refusal number place) = refusal_text number place
outcome_text (answer p) = plan_text p.terminals p.cost p.bound p.rounds p.marks (records_of p.duals)

-- What is printed for a survey, and for a text.
unfoldable pub survey_output : Survey → List ℕ
survey_output s = outcome_text (survey_plan s)

unfoldable pub plan_output : List ℕ → List ℕ
plan_output t = outcome_text (text_plan t)
