-- What a well-formed survey text is (document 01, 'Survey text and printed plan'; document 02, No. 2), which of them reading accepts, and what it then says.
use Rattle.std.specs.Prelude.{ℕ, ◌≤◌, ◌<◌, List, ◌++◌, ◌≡◌, length, take}
use Rattle.base_limits.specs.Limits.{max_vertices, max_edges, max_pairs, group_numbers, count_digits, group_digits}
use Rattle.format_read.specs.Language.{EachFrom}
use Rattle.format_read.specs.Number.{OfDigits}
use Rattle.format_also.specs.Pair.{Pair}
use Rattle.format_also.specs.WellFormed.{FewPairs, PairsPass}
use Rattle.format_survey.specs.Line.{Edge, EdgeDigits, Lengths}
use Rattle.format_survey.specs.Reading.{SurveyText, survey_of}
use Rattle.format_survey.specs.Render.{render}

-- A well-formed text: any counts, groups, ends, prices and at most 256 pairs, each number of at most so many digits. The order of the pairs is no part of it.
pub record WellFormed (t : List ℕ) : Type 0 where
  pub groups : List ℕ
  pub pairs : List Pair
  pub edges : List Edge
  pub few_groups : OfDigits count_digits (length groups)
  pub few_edges : OfDigits count_digits (length edges)
  pub each_group : EachFrom (λ v. OfDigits group_digits) 0 groups
  pub few_pairs : FewPairs pairs
  pub each_edge : EachFrom (λ e. EdgeDigits) 0 edges
  pub word : t ≡ render groups pairs edges

-- A survey within the counts, with groups up to 255 and pairs to which neither 17 nor 18 comes.
pub record WithinCounts (groups : List ℕ) (pairs : List Pair) (edges : List Edge) : Type 0 where
  pub some : 0 < length groups
  pub few_groups : length groups ≤ max_vertices
  pub few_edges : length edges ≤ max_edges
  pub each_group : EachFrom (λ v g. g < group_numbers) 0 groups
  pub each_pair : PairsPass groups max_pairs 0 0 pairs
  pub each_edge : EachFrom (λ e. EdgeDigits) 0 edges

-- What the text of these groups, pairs and edges says.
unfoldable pub survey_of_text : List ℕ → List Pair → List Edge → SurveyText
survey_of_text groups pairs edges = survey_of (record { vertices = length groups; edges = length edges }) groups pairs edges

-- The lent buffers are long enough.
pub record SurveyRoom (lent : Lengths) (groups : List ℕ) (pairs : List Pair) (edges : List Edge) : Type 0 where
  pub for_groups : length groups ≤ lent.groups
  pub for_firsts : length edges ≤ lent.firsts
  pub for_seconds : length edges ≤ lent.seconds
  pub for_weights : length edges ≤ lent.weights
  pub for_owners : length pairs ≤ lent.owners
  pub for_others : length pairs ≤ lent.others

-- An accepted text is a rendering, and what is read is what was rendered.
pub record Accepting (lent : Lengths) (t : List ℕ) (s : SurveyText) : Type 0 where
  pub groups : List ℕ
  pub pairs : List Pair
  pub edges : List Edge
  pub within : WithinCounts groups pairs edges
  pub room : SurveyRoom lent groups pairs edges
  pub word : t ≡ render groups pairs edges
  pub says : s ≡ survey_of_text groups pairs edges

-- The bytes before the place of 16 begin a well-formed text.
pub record Begins (t : List ℕ) (p : ℕ) : Type 0 where
  pub inside : p ≤ length t
  pub rest : List ℕ
  pub well : WellFormed (take p t ++ rest)
