-- The pairs of the result as the code finds them, row by row (document 02, No. 9). A pair (w, g) is the number w * 256 + g.
use Rattle.std.specs.Prelude.{ℕ, ◌+◌, ◌*◌, cond, not, List, [], ◌∷◌, map, length, get_or, eqb}
use Rattle.base_finite.specs.Below.{those_below}
use Rattle.base_limits.specs.Limits.{group_numbers}
use Rattle.theory_route.specs.First.{first_below}
use Rattle.survey_core.specs.Lists.{Lists}
use Rattle.merge_rule.specs.Merged.{pair_vertex, pair_group}
use Rattle.merge_core.specs.Row.{further_with}

-- The junction of the second, which has m, whose place is w; m where none is.
unfoldable pub standing_in : (places : List ℕ) → (m w : ℕ) → ℕ
standing_in places m w = first_below m (λ v. eqb (get_or places v 0) w)

-- A pair, where its flag is set.
unfoldable pub flagged : (flag pair : ℕ) → List ℕ
flagged flag pair = cond (eqb flag 0) [] (pair ∷ [])

-- The pairs of w with the groups below k whose flags are set.
unfoldable pub row_pairs : (row : List ℕ) → (w k : ℕ) → List ℕ
row_pairs row w k = map (λ g. w * group_numbers + g) (those_below k (λ g. not (eqb (get_or row g 0) 0)))

-- The pairs whose numbers lie below k.
unfoldable pub pairs_by : (first second : Lists) (places : List ℕ) → (k : ℕ) → List ℕ
pairs_by first second places k =
    those_below k (λ c. further_with first second (pair_vertex c) (standing_in places (length second.groups) (pair_vertex c)) (pair_group c))
