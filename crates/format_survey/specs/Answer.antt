-- What the answers of the code say in the terms of the definitions: the counts.
use Rattle.std.specs.Prelude.{ℕ, length}
use Rattle.base_limits.specs.Verdict.{Outcome, refusal, answer}
use Rattle.format_survey.specs.Reading.{SurveyText}
use Rattle.format_survey.specs.declared.Reading.{Reading}
use Rattle.format_survey.specs.declared.Reading.TheVariants.{Survey as SurveyRead, Refused as ReadingRefused}

-- n, m and the number of pairs.
pub record TextCounts : Type 0 where
  pub vertices : ℕ
  pub edges : ℕ
  pub pairs : ℕ

-- The answer of reading.
unfoldable pub counts_outcome : Reading → Outcome TextCounts
counts_outcome (SurveyRead n m k) = answer (record { vertices = n; edges = m; pairs = k })
counts_outcome (ReadingRefused number place) = refusal number place

unfoldable pub counts_of : Outcome SurveyText → Outcome TextCounts
counts_of (refusal number place) = refusal number place
counts_of (answer s) = answer (record { vertices = s.vertices; edges = s.edges; pairs = length s.owners })
