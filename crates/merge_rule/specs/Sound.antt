-- What 2 and 22 leave of ties, and what all refusals leave of two surveys and their ties (document 02, No. 9; laws `fine_ties`, `fine_merge`).
use Rattle.std.specs.Prelude.{ℕ, ◌<◌, ◌≤◌, ◌≡◌, length, get_or}
use Rattle.base_limits.specs.Limits.{max_vertices, max_edges, max_pairs}
use Rattle.survey_core.specs.Survey.{Survey}
use Rattle.survey_core.specs.Sound.{SurveySound}
use Rattle.merge_rule.specs.Ties.{Ties}
use Rattle.merge_rule.specs.Merged.{merged}
use Rattle.merge_rule.specs.Refusal.{SurveyCounts, Room}

-- Ties between a survey of n junctions and one of m: in range, and no junction tied twice.
pub record TiesSound (n m : ℕ) (ties : Ties) : Type 0 where
  pub long : length ties.firsts ≡ length ties.seconds
  pub first_below_law : (i : ℕ) → i < length ties.firsts → get_or ties.firsts i 0 < n
  pub second_below : (i : ℕ) → i < length ties.firsts → get_or ties.seconds i 0 < m
  pub first_once : (i j : ℕ) → i < j → j < length ties.firsts → get_or ties.firsts i 0 ≡ get_or ties.firsts j 0 → ⊥
  pub second_once : (i j : ℕ) → i < j → j < length ties.firsts → get_or ties.seconds i 0 ≡ get_or ties.seconds j 0 → ⊥

-- Both surveys and the ties are sound, and the result is within the limits.
pub record Mergeable (a b : Survey) (ties : Ties) : Type 0 where
  pub first_sound : SurveySound a
  pub second_sound : SurveySound b
  pub ties_sound : TiesSound (length a.groups) (length b.groups) ties
  pub few : length (merged a b ties).groups ≤ max_vertices
  pub edges_few : length (merged a b ties).firsts ≤ max_edges
  pub pairs_few : length (merged a b ties).owners ≤ max_pairs

-- The six buffers hold a result of these counts: what 7 leaves.
pub record RoomFor (c : SurveyCounts) (room : Room) : Type 0 where
  pub groups : c.vertices ≤ room.groups
  pub firsts : c.edges ≤ room.firsts
  pub seconds : c.edges ≤ room.seconds
  pub weights : c.edges ≤ room.weights
  pub owners : c.pairs ≤ room.owners
  pub others : c.pairs ≤ room.others
