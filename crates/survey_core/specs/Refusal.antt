-- The refusals that planning and the checker share: 1 to 6, 18, and the lowest group that a set of tracks does not join
-- (document 01, 'Refused surveys and plans'; document 02, No. 2).
use Rattle.std.specs.Prelude.{ℕ, ◌<◌, Bool, ◌&&◌, ◌||◌, not, length, get_or, eqb, ltb, leb}
use Rattle.base_limits.specs.Limits.{max_vertices, max_edges, max_weight, group_numbers}
use Rattle.base_limits.specs.Verdict.{refuse_if, ◌before◌, lowest_below}
use Rattle.base_limits.specs.declared.Verdict.{Verdict}
use Rattle.survey_core.specs.Survey.{Survey, lists_of, vertex_count, edge_count, JoinsGroup, group_joined, components_of}
use Rattle.survey_core.specs.Pairs.{pairs_refusal}

-- 4, 5 and 6 in that order at one track.
unfoldable pub edge_refusal : Survey → ℕ → Verdict
edge_refusal s e =
    refuse_if (leb (vertex_count s) (get_or s.firsts e 0) || leb (vertex_count s) (get_or s.seconds e 0)) 4 e
    before refuse_if (eqb (get_or s.firsts e 0) (get_or s.seconds e 0)) 5 e
    before refuse_if (ltb max_weight (get_or s.weights e 0)) 6 e

-- 1, 2 (of the tracks, of the pairs), 3, then the tracks rising, then the pairs rising.
unfoldable pub survey_refusal : Survey → Verdict
survey_refusal s =
    refuse_if (eqb (vertex_count s) 0 || ltb max_vertices (vertex_count s)) 1 0
    before refuse_if (not (eqb (edge_count s) (length s.seconds) && eqb (edge_count s) (length s.weights))) 2 0
    before refuse_if (not (eqb (length s.owners) (length s.others))) 2 0
    before refuse_if (ltb max_edges (edge_count s)) 3 0
    before lowest_below (edge_count s) (edge_refusal s)
    before pairs_refusal (lists_of s)

-- The lowest group that the tracks of F do not join: 8 of all tracks, 14 of the kept ones.
unfoldable pub group_refusal : Survey → (number : ℕ) → (ℕ → Bool) → Verdict
group_refusal s number F =
    let label = components_of s F in lowest_below group_numbers (λ g. refuse_if (not (group_joined s label g)) number g)

-- The same in terms of paths (law `group_refused`).
pub record LowestUnjoined (s : Survey) (F : ℕ → Bool) (g : ℕ) : Type 0 where
  pub below : g < group_numbers
  pub unjoined : JoinsGroup s F g → ⊥
  pub lower : (i : ℕ) → i < g → JoinsGroup s F i
