-- A survey that nothing is wrong with, in terms of its numbers (document 01, 'Refused surveys and plans', 1 to 6; document 02, No. 2, 18; laws `survey_fine`, `fine_survey`).
use Rattle.std.specs.Prelude.{ℕ, ◌<◌, ◌≤◌, ◌≡◌, length, get_or}
use Rattle.base_limits.specs.Limits.{max_vertices, max_edges, max_weight, group_numbers}
use Rattle.survey_core.specs.Survey.{Survey, lists_of}
use Rattle.survey_core.specs.Pairs.{PairsSound}

-- Group numbers are bytes, of own groups and of pairs.
pub record ByteGroups (s : Survey) : Type 0 where
  pub own_byte : (v : ℕ) → get_or s.groups v 0 < group_numbers
  pub other_byte : (i : ℕ) → get_or s.others i 0 < group_numbers

-- What 4, 5 and 6 leave of a track.
pub record EdgeSound (s : Survey) (e : ℕ) : Type 0 where
  pub first_below_law : get_or s.firsts e 0 < length s.groups
  pub second_below : get_or s.seconds e 0 < length s.groups
  pub ends_differ : get_or s.firsts e 0 ≡ get_or s.seconds e 0 → ⊥
  pub weight_le : get_or s.weights e 0 ≤ max_weight

-- What 1 to 6 and 18 leave of a survey.
pub record SurveySound (s : Survey) : Type 0 where
  pub some : 1 ≤ length s.groups
  pub few : length s.groups ≤ max_vertices
  pub seconds_long : length s.firsts ≡ length s.seconds
  pub weights_long : length s.firsts ≡ length s.weights
  pub edges_few : length s.firsts ≤ max_edges
  pub edges : (e : ℕ) → e < length s.firsts → EdgeSound s e
  pub pairs_long : length s.owners ≡ length s.others
  pub pairs : PairsSound (lists_of s)
