-- The survey at the front of a text, as it was read into buffers.
use Rattle.std.specs.Prelude.{ℕ, ◌-◌, ◌≤◌, ◌≡◌, List, length, take}
use Rattle.base_limits.specs.Limits.{max_vertices, max_edges, max_pairs}
use Rattle.format_read.specs.Step.{Step, found, refused}
use Rattle.format_survey.specs.Line.{widest}
use Rattle.format_survey.specs.Reading.{SurveyText}
use Rattle.survey_core.specs.Survey.{survey_with}
use Rattle.check_printed.specs.Verify.{prefix_at, survey_in}
use Rattle.text_merge.specs.declared.Front.{Front}
use Rattle.text_merge.specs.declared.Front.TheVariants.{Survey as FrontSurvey, Refused as FrontRefused}

unfoldable pub front_of : Step SurveyText → Front
front_of (found s next) = FrontSurvey s.vertices s.edges (length s.owners) next
front_of (refused number place) = FrontRefused number place

-- A survey was read: the text says it, and its parts stand in the buffers, which hold them.
pub record Said (t : List ℕ) (n m k at : ℕ) (groups firsts seconds weights owners others : List ℕ) : Type 0 where
  pub said : SurveyText
  pub read : prefix_at widest t ≡ found said at
  pub parts : survey_with (take (n - 0) groups) (take (m - 0) firsts) (take (m - 0) seconds) (take (m - 0) weights) (take (k - 0) owners) (take (k - 0) others) ≡ survey_in said
  pub vertices_few : n ≤ max_vertices
  pub edges_few : m ≤ max_edges
  pub pairs_few : k ≤ max_pairs

-- What reading answered, and what stands in the buffers.
unfoldable pub FrontRead : (t : List ℕ) → Front → (groups firsts seconds weights owners others : List ℕ) → Type 0
FrontRead t (FrontRefused number place) groups firsts seconds weights owners others = prefix_at widest t ≡ refused number place
FrontRead t (FrontSurvey n m k at) groups firsts seconds weights owners others = Said t n m k at groups firsts seconds weights owners others
