-- A survey's text with a plan's text behind it that passes, and what passing is worth (the buyer's demand 3).
use Rattle.std.specs.Prelude.{ℕ, List, ◌++◌, ◌≡◌, length}
use Rattle.base_limits.specs.Verdict.{answer}
use Rattle.check_rule.specs.Check.{Checked, checking}
use Rattle.check_printed.specs.Verify.{prefix_at, survey_in}
use Rattle.format_read.specs.Step.{found}
use Rattle.format_plan.specs.Plan.{Claims, PrintedPlan, marks_of, dual_records}
use Rattle.format_plan.specs.WellFormed.{Printable, plan_words}
use Rattle.format_survey.specs.Reading.{SurveyText}
use Rattle.format_survey.specs.Render.{render}
use Rattle.format_survey.specs.WellFormed.{WithinCounts, survey_of_text}
use Rattle.format_also.specs.Pair.{Pair}
use Rattle.format_survey.specs.Line.{widest, Edge}
use Rattle.survey_core.specs.Accuracy.{Accurate, DualBound}
use Rattle.survey_core.specs.Survey.{Survey}

-- Counts that are what the checker found.
pub record Claimed (x : Claims) (c : Checked) : Type 0 where
  pub terminals : c.terminals ≡ x.terminals
  pub cost : c.cost ≡ x.cost
  pub bound : c.bound ≡ x.bound

-- What passes: the text begins with a survey, of which the k and the cost that are reported obey the accuracy rule, and the bound is worth what a bound is.
pub record Worth (t : List ℕ) (c : Checked) : Type 0 where
  pub survey : SurveyText
  pub next : ℕ
  pub read : prefix_at widest t ≡ found survey next
  pub accurate : Accurate (survey_in survey) c.terminals c.cost
  pub bounded : DualBound (survey_in survey) c.bound

-- The survey of groups, pairs and edges.
abbrev pub survey_rendered : List ℕ → List Pair → List Edge → Survey
survey_rendered groups pairs edges = survey_in (survey_of_text groups pairs edges)

-- A survey's text with a plan's behind it that passes with these counts.
pub record PassingText (t : List ℕ) (c : Checked) : Type 0 where
  pub groups : List ℕ
  pub pairs : List Pair
  pub edges : List Edge
  pub plan : PrintedPlan
  pub within : WithinCounts groups pairs edges
  pub printable : Printable (length edges) plan
  pub word : t ≡ render groups pairs edges ++ plan_words plan
  pub passes : checking (survey_rendered groups pairs edges) (marks_of (length edges) plan.kept) (dual_records plan.duals) ≡ answer c
  pub claims : Claimed plan.claims c
