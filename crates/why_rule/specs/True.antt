-- When a reason is true of the growth (document 02, No. 3; document 01, 'How moats grow').
use Rattle.std.specs.Prelude.{ℕ, ◌<◌, ◌≤◌, ◌≡◌, ◌⊎◌, ◌↔◌, Bool, true, false, List}
use Rattle.theory_graph.specs.Path.{Linked, without}
use Rattle.theory_steiner.specs.Growth.{state_at, grown}
use Rattle.theory_steiner.specs.Pruning.{picked, kept}
use Rattle.theory_route.specs.Route.{occurs, IsRoute}
use Rattle.survey_core.specs.Survey.{Survey, vertex_count, member, problem_of, JoinsGroup}
use Rattle.survey_core.specs.Refusal.{LowestUnjoined}
use Rattle.why_rule.specs.Reason.{Reason, needs, spared, passed, others}

-- Tracks of F link u and w.
abbrev pub LinkedBy : Survey → (ℕ → Bool) → (u w : ℕ) → Type 0
LinkedBy s F u w = Linked (problem_of s).first (problem_of s).second F u w

-- The kept tracks but this one: what the crew's sheet has without it.
abbrev pub other_kept : Survey → (e : ℕ) → ℕ → Bool
other_kept s e = without (kept (problem_of s)) e

-- The lowest pair of members of g that the tracks of F do not link: by the smaller number, then by the larger.
pub record LowestPair (s : Survey) (F : ℕ → Bool) (g u w : ℕ) : Type 0 where
  pub rising : u < w
  pub below : w < vertex_count s
  pub low_member_law : member s g u ≡ true
  pub high_member_law : member s g w ≡ true
  pub parted : LinkedBy s F u w → ⊥
  pub lowest : (x y : ℕ) → x < y → y < vertex_count s → member s g x ≡ true → member s g y ≡ true → (LinkedBy s F x y → ⊥) → (u < x) ⊎ ((u ≡ x) × (w ≤ y))

pub record NeedsTrue (s : Survey) (e g u w : ℕ) (route : List ℕ) : Type 0 where
  pub is_kept : kept (problem_of s) e ≡ true
  -- the lowest list that the other picked tracks leave apart, and its lowest pair of members so parted
  pub lowest_list : LowestUnjoined s (others s e) g
  pub lowest_pair : LowestPair s (others s e) g u w
  -- and so it is with the other kept tracks: two members of one list are linked by the ones exactly if by the others
  pub same_links : (h x y : ℕ) → x < vertex_count s → y < vertex_count s → member s h x ≡ true → member s h y ≡ true → LinkedBy s (others s e) x y ↔ LinkedBy s (other_kept s e) x y
  pub lowest_kept_list : LowestUnjoined s (other_kept s e) g
  pub lowest_kept_pair : LowestPair s (other_kept s e) g u w
  -- a path of kept tracks without a repeated junction, in walking order from the smaller; the only one; and the asked track is on it
  pub path : IsRoute (problem_of s).first (problem_of s).second (kept (problem_of s)) u w route
  pub only : (es : List ℕ) → IsRoute (problem_of s).first (problem_of s).second (kept (problem_of s)) u w es → es ≡ route
  pub on_route : occurs route e ≡ true
  -- no other kept or picked tracks link the pair
  pub apart : (F : ℕ → Bool) → ((f : ℕ) → F f ≡ true → picked (problem_of s) f ≡ true) → LinkedBy s (without F e) u w → ⊥

pub record SparedTrue (s : Survey) (e : ℕ) : Type 0 where
  pub is_picked : picked (problem_of s) e ≡ true
  pub not_kept : kept (problem_of s) e ≡ false
  -- the other picked tracks, and the kept ones, join every list
  pub others_join : (g : ℕ) → JoinsGroup s (others s e) g
  pub kept_join : (g : ℕ) → JoinsGroup s (kept (problem_of s)) g

-- The picks of the first r rounds link the ends of e.
abbrev pub LinkedAfter : Survey → (e r : ℕ) → Type 0
LinkedAfter s e r = LinkedBy s (state_at (problem_of s) r).picked ((problem_of s).first e) ((problem_of s).second e)

-- The least number of rounds after which the picks so far link the ends.
pub record FirstJoined (s : Survey) (e r : ℕ) : Type 0 where
  pub some : 1 ≤ r
  pub within : r ≤ (grown (problem_of s)).rounds
  pub joined : LinkedAfter s e r
  pub not_before : (i : ℕ) → i < r → LinkedAfter s e i → ⊥

pub record PassedTrue (s : Survey) (e round : ℕ) : Type 0 where
  pub not_picked : picked (problem_of s) e ≡ false
  -- a round, or 0 where the picks never link the ends
  pub when : ((round ≡ 0) × ((r : ℕ) → LinkedAfter s e r → ⊥)) ⊎ FirstJoined s e round

pub data TrueOf (s : Survey) (e : ℕ) : Reason → Type 0 where
  needs_true : {g u w : ℕ} {route : List ℕ} → NeedsTrue s e g u w route → TrueOf s e (needs g u w route)
  spared_true : SparedTrue s e → TrueOf s e spared
  passed_true : {round : ℕ} → PassedTrue s e round → TrueOf s e (passed round)
