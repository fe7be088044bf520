-- The plan of the survey that a text says, its text as the program `plan` prints it, what the programs `plan` and
-- `verify` print for any text, and what it is that no cheaper plan exists.
use Rattle.std.specs.Prelude.{ℕ, ◌≡◌, List, ◌++◌}
use Rattle.base_limits.specs.Verdict.{answer}
use Rattle.check_rule.specs.Exact.{NoneCheaper}
use Rattle.check_printed.specs.Verify.{prefix_at, survey_in}
use Rattle.format_read.specs.Step.{found}
use Rattle.format_survey.specs.Line.{widest}
use Rattle.format_survey.specs.Reading.{SurveyText}
use Rattle.format_write.specs.Key.{terminals_key, cost_key, bound_key}
use Rattle.format_write.specs.Text.{line_of, plan_text, refusal_text}
use Rattle.plan_rule.specs.Plan.{Plan, plan_of}
use Rattle.plan_draw.specs.Drawing.{records_of}
use Rattle.survey_core.specs.Survey.{problem_of}
use Rattle.survey_core.specs.Accuracy.{Accurate, DualBound}
use Rattle.check_rule.specs.Check.{Checked}
use Rattle.check_printed.specs.Worth.{Worth}
use Rattle.text_plan.specs.Output.{survey_read, plan_output}
use Rattle.text_verify.specs.Output.{passed_text, verify_output}

-- The plan of the survey that a text says, and its text.
abbrev pub plan_for : SurveyText → Plan
plan_for s = plan_of (problem_of (survey_in s))

abbrev pub printed_plan : Plan → List ℕ
printed_plan p = plan_text p.terminals p.cost p.bound p.rounds p.marks (records_of p.duals)

-- A plan that is printed for a text: the figures on its lines obey the accuracy rule for the survey that the text says.
pub record AccuratePrint (t : List ℕ) (p : Plan) : Type 0 where
  pub survey : SurveyText
  pub read : survey_read t ≡ answer survey
  pub prints : plan_output t ≡ plan_text p.terminals p.cost p.bound p.rounds p.marks (records_of p.duals)
  pub accurate : Accurate (survey_in survey) p.terminals p.cost
  pub bounded : DualBound (survey_in survey) p.bound

-- What `plan` prints: the two lines of a refusal, or such a plan.
pub data PlanPrints (t : List ℕ) : Type 0 where
  prints_refusal : (number place : ℕ) → plan_output t ≡ refusal_text number place → PlanPrints t
  prints_plan : (p : Plan) → AccuratePrint t p → PlanPrints t

-- What `verify` prints: the two lines of a refusal, or `passed` with a k, cost and bound that are worth what the
-- accuracy rule says.
pub data VerifyPrints (t : List ℕ) : Type 0 where
  verify_refusal : (number place : ℕ) → verify_output t ≡ refusal_text number place → VerifyPrints t
  verify_passed : (c : Checked) → verify_output t ≡ passed_text c.terminals c.cost c.bound → Worth t c → VerifyPrints t

-- The lines `sites=`, `cost=` and `bound=` with these figures.
abbrev pub figure_lines : (k c b : ℕ) → List ℕ
figure_lines k c b = line_of terminals_key k ++ line_of cost_key c ++ line_of bound_key b

-- Figures that obey the accuracy rule for the survey that a text says.
pub record AccurateFigures (t : List ℕ) (k c b : ℕ) : Type 0 where
  pub survey : SurveyText
  pub read : survey_read t ≡ answer survey
  pub accurate : Accurate (survey_in survey) k c
  pub bounded : DualBound (survey_in survey) b

-- The text says a survey of which no set of tracks that joins every group costs less than c.
pub record NoCheaperPlan (t : List ℕ) (c : ℕ) : Type 0 where
  pub survey : SurveyText
  pub read : survey_read t ≡ answer survey
  pub none_cheaper : NoneCheaper (survey_in survey) c

-- The same of a text that begins with a survey.
pub record NoCheaperBehind (t : List ℕ) (c : ℕ) : Type 0 where
  pub survey : SurveyText
  pub next : ℕ
  pub read : prefix_at widest t ≡ found survey next
  pub none_cheaper : NoneCheaper (survey_in survey) c
