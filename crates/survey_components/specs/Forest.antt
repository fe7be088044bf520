-- What keeps a set of tracks from being a forest that joins every group (document 02, No. 7: the refusals of dropping).
use Rattle.std.specs.Prelude.{ℕ, ◌<◌, ◌≤◌, Bool, ◌&&◌, not, List, length, get_or, eqb}
use Rattle.theory_graph.specs.Component.{components}
use Rattle.base_limits.specs.Limits.{max_vertices}
use Rattle.base_limits.specs.Verdict.{refuse_if, ◌before◌, lowest_below}
use Rattle.base_limits.specs.declared.Verdict.{Verdict}
use Rattle.survey_core.specs.Survey.{Survey, vertex_count, edge_count, problem_of}
use Rattle.survey_core.specs.Refusal.{survey_refusal, group_refusal}
use Rattle.survey_components.specs.Labels.{picked_in}

-- Edge e of F closes a loop with edges of F of lower number: these link its ends already.
unfoldable pub closes_loop : (n : ℕ) (a b : ℕ → ℕ) → (ℕ → Bool) → ℕ → Bool
closes_loop n a b F e = let label = components n a b F e in F e && eqb (label (a e)) (label (b e))

-- 21: the lowest such track. There is none exactly if F is a forest (laws `forest_fine`, `fine_forest`).
unfoldable pub loop_refusal : Survey → (ℕ → Bool) → Verdict
loop_refusal s F = lowest_below (edge_count s) (λ e. refuse_if (closes_loop (vertex_count s) (problem_of s).first (problem_of s).second F e) 21 e)

-- 1 to 6, then 9 for marks not m long, then 21, then 14 for the picked tracks.
unfoldable pub forest_refusal : Survey → (picked : List ℕ) → Verdict
forest_refusal s picked =
    survey_refusal s
    before refuse_if (not (eqb (length picked) (edge_count s))) 9 0
    before loop_refusal s (picked_in picked)
    before group_refusal s 14 (picked_in picked)

-- There are no more vertices than labels, and every end is a vertex.
pub record EndsBelow (groups firsts seconds : List ℕ) : Type 0 where
  pub few : length groups ≤ max_vertices
  pub first_below_law : (e : ℕ) → e < length firsts → get_or firsts e 0 < length groups
  pub second_below : (e : ℕ) → e < length firsts → get_or seconds e 0 < length groups
