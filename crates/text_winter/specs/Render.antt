-- The text of strength lines, and which lines pass their tests one after another: what reading accepts behind a survey's text (document 02, No. 13).
use Rattle.std.specs.Prelude.{ℕ, ◌≤◌, ◌<◌, ◌≡◌, List, [], ◌∷◌, ◌++◌}
use Rattle.format_write.specs.Key.{comma, newline}
use Rattle.format_read.specs.Lines.{text_of}
use Rattle.format_read.specs.Number.{number_text}
use Rattle.format_also.specs.Pair.{Pair}
use Rattle.format_survey.specs.Line.{Edge}
use Rattle.format_survey.specs.Reading.{SurveyText}
use Rattle.format_survey.specs.Render.{render}
use Rattle.format_survey.specs.WellFormed.{WithinCounts, survey_of_text}
use Rattle.winter_rule.specs.Winter.{strength_count}
use Rattle.winter_rule.specs.Promise.{StrengthSound}
use Rattle.text_winter.specs.Given.{Given, strength_key}

unfoldable pub given_text : Given → List ℕ
given_text x = strength_key ++ number_text comma x.group ++ number_text newline x.strength

unfoldable pub givens_text : List Given → List ℕ
givens_text lines = text_of given_text lines

-- What 24 leaves of a line behind one of group low (0 for none).
pub record GivenPasses (low : ℕ) (x : Given) : Type 0 where
  pub rises : low < x.group
  pub group : x.group ≤ strength_count
  pub strength : StrengthSound x.strength

-- Lines that pass one after another.
pub data GivensPass : (low : ℕ) → List Given → Type 0 where
  no_given : {low : ℕ} → GivensPass low []
  next_given : {low : ℕ} {x : Given} {l : List Given} → GivenPasses low x → GivensPass x.group l → GivensPass low (x ∷ l)

-- A text is a survey's text and such lines.
pub record WinterText (t : List ℕ) (s : SurveyText) (lines : List Given) : Type 0 where
  pub groups : List ℕ
  pub pairs : List Pair
  pub edges : List Edge
  pub within : WithinCounts groups pairs edges
  pub says : s ≡ survey_of_text groups pairs edges
  pub passes : GivensPass 0 lines
  pub word : t ≡ render groups pairs edges ++ givens_text lines
