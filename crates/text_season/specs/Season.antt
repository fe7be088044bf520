-- Survey texts one after the other, and what the program `season` prints of them (document 02, No. 11). Each text ends
-- where its last line ends.
use Rattle.std.specs.Prelude.{ℕ, zero, suc, ◌+◌, List, [], ◌∷◌, ◌++◌, drop}
use Rattle.base_limits.specs.Verdict.{written}
use Rattle.base_limits.specs.declared.Verdict.TheVariants.{Fine}
use Rattle.format_also.specs.Pair.{Pair}
use Rattle.format_survey.specs.Line.{Edge}
use Rattle.format_survey.specs.Render.{render}
use Rattle.format_survey.specs.WellFormed.{WithinCounts, survey_of_text}
use Rattle.survey_core.specs.Survey.{Survey}
use Rattle.check_printed.specs.Verify.{survey_in}
use Rattle.season_rule.specs.declared.Report.{Report}
use Rattle.season_rule.specs.Report.{max_surveys, empty_report}
use Rattle.text_season.specs.declared.TextAdded.{TextAdded}
use Rattle.text_season.specs.Added.{text_added, answer_text}

-- Text after text, at most so many: up to the end, or to the first refusal.
unfoldable pub texts_added : (texts : ℕ) → Report → List ℕ → TextAdded
texts_added zero r t = record { verdict = Fine; used = 0; report = r }
texts_added (suc k) r [] = record { verdict = Fine; used = 0; report = r }
texts_added (suc k) r (b ∷ t) =
    let a = text_added r (b ∷ t) in
    written a.verdict (texts_added k a.report (drop a.used (b ∷ t))) a

-- A 1,001st text is looked at, for its refusal.
unfoldable pub season_output : List ℕ → List ℕ
season_output t =
    let a = texts_added (max_surveys + 1) empty_report t in
    answer_text a.verdict a.report

-- A survey as it is rendered.
pub record Rendered : Type 0 where
  pub groups : List ℕ
  pub pairs : List Pair
  pub edges : List Edge
  pub within : WithinCounts groups pairs edges

unfoldable pub rendered_text : Rendered → List ℕ
rendered_text x = render x.groups x.pairs x.edges

unfoldable pub rendered_survey : Rendered → Survey
rendered_survey x = survey_in (survey_of_text x.groups x.pairs x.edges)

unfoldable pub texts_of : List Rendered → List ℕ
texts_of [] = []
texts_of (x ∷ xs) = rendered_text x ++ texts_of xs
