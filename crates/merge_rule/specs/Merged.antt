-- One survey of two (document 02, No. 9): a is the first, b the second.
use Rattle.std.specs.Prelude.{ℕ, ◌*◌, ◌/◌, ◌%◌, Bool, cond, ◌&&◌, ◌||◌, not, List, map, ◌++◌, get_or, eqb}
use Rattle.base_finite.specs.Below.{tabulate, those_below}
use Rattle.base_limits.specs.Limits.{group_numbers}
use Rattle.survey_core.specs.Survey.{Survey, vertex_count, member}
use Rattle.merge_rule.specs.Ties.{Ties, placed, merged_count, standing_at}

-- n of the result.
unfoldable pub merged_vertices : (a b : Survey) → Ties → ℕ
merged_vertices a b ties = merged_count (vertex_count a) (vertex_count b) ties

-- The junction of b that stands at junction w of the result; past b's last where none does.
unfoldable pub second_at : (a b : Survey) → Ties → (w : ℕ) → ℕ
second_at a b ties w = standing_at (vertex_count a) (vertex_count b) ties w

-- 'its own is that of the first survey, or of the second where that is 0'. Past a's last junction a's is 0, and past b's last b's.
unfoldable pub own_at : (a b : Survey) → Ties → (w : ℕ) → ℕ
own_at a b ties w = cond (eqb (get_or a.groups w 0) 0) (get_or b.groups (second_at a b ties w) 0) (get_or a.groups w 0)

-- 'Equal group numbers are one group, and a tied junction keeps those of both': w belongs to group g.
unfoldable pub belongs : (a b : Survey) → Ties → (g w : ℕ) → Bool
belongs a b ties g w = member a g w || member b g (second_at a b ties w)

-- 'and every other is a pair once'.
unfoldable pub is_further : (a b : Survey) → Ties → (g w : ℕ) → Bool
is_further a b ties g w = belongs a b ties g w && not (eqb g (own_at a b ties w))

-- The pair (w, g) as one number, w * 256 + g, so that numbers rise as pairs do: by w, then by g.
abbrev pub pair_vertex : ℕ → ℕ
pair_vertex c = c / group_numbers

abbrev pub pair_group : ℕ → ℕ
pair_group c = c % group_numbers

unfoldable pub merged_pairs : (a b : Survey) → Ties → List ℕ
merged_pairs a b ties = those_below (merged_vertices a b ties * group_numbers) (λ c. is_further a b ties (pair_group c) (pair_vertex c))

-- 'tracks of the first come first', then the second's between the places where its junctions stand.
unfoldable pub merged : (a b : Survey) → Ties → Survey
merged a b ties =
    record {
      groups = tabulate (merged_vertices a b ties) (own_at a b ties);
      firsts = a.firsts ++ map (placed (vertex_count a) ties) b.firsts;
      seconds = a.seconds ++ map (placed (vertex_count a) ties) b.seconds;
      weights = a.weights ++ b.weights;
      owners = map pair_vertex (merged_pairs a b ties);
      others = map pair_group (merged_pairs a b ties);
    }
