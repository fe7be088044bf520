-- Reading both surveys out of the result again (document 02, No. 9): 'with the ties and both surveys' counts, all tracks and the memberships of each
-- untied junction can be read out again' (law `reads_back`).
use Rattle.std.specs.Prelude.{ℕ, ◌<◌, ◌≡◌, Bool, false, List, map, length, take, drop}
use Rattle.survey_core.specs.Survey.{Survey, member}
use Rattle.merge_rule.specs.Ties.{Ties, is_tied, placed, standing_at}
use Rattle.merge_rule.specs.Refusal.{SurveyCounts}

-- The tracks of a survey, and who belongs where: `holds g v` says that v is a member of group g.
pub record Part : Type 0 where
  pub firsts : List ℕ
  pub seconds : List ℕ
  pub weights : List ℕ
  pub holds : (g v : ℕ) → Bool

pub record Parts : Type 0 where
  pub first : Part
  pub second : Part

-- Of the result r: the first's tracks are the first ones, and its junctions have kept their numbers; the second's tracks are those behind, their ends
-- the junctions that stand there, and a junction's memberships are those of its place. The arguments p and q are the first's and the second's counts.
unfoldable pub read_out : (r : Survey) → Ties → (p q : SurveyCounts) → Parts
read_out r ties p q =
    let n = p.vertices in
    let behind : List ℕ → List ℕ = λ l. take q.edges (drop p.edges l) in
    record {
      first =
          record {
            firsts = take p.edges r.firsts;
            seconds = take p.edges r.seconds;
            weights = take p.edges r.weights;
            holds = member r;
          };
      second =
          record {
            firsts = map (standing_at n q.vertices ties) (behind r.firsts);
            seconds = map (standing_at n q.vertices ties) (behind r.seconds);
            weights = behind r.weights;
            holds = λ g v. member r g (placed n ties v);
          };
    }

-- What is read out is survey s: all its tracks, and the memberships of each junction that this side of the ties does not name.
pub record IsPart (s : Survey) (side : List ℕ) (p : Part) : Type 0 where
  pub firsts_are : p.firsts ≡ s.firsts
  pub seconds_are : p.seconds ≡ s.seconds
  pub weights_are : p.weights ≡ s.weights
  pub members_are : (g v : ℕ) → v < length s.groups → is_tied side v ≡ false → p.holds g v ≡ member s g v

pub record IsParts (a b : Survey) (ties : Ties) (p : Parts) : Type 0 where
  pub first_is : IsPart a ties.firsts p.first
  pub second_is : IsPart b ties.seconds p.second
