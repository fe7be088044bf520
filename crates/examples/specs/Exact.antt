-- Where near best is best (document 02, No. 14), by computation: the order of tracks by price, then number, and what
-- is taken of it.
use Rattle.std.specs.Prelude.{◌≡◌, refl, [], ◌∷◌}
use Rattle.base_finite.specs.Below.{those_below, tabulate, lookup, memo}
use Rattle.theory_graph.specs.Component.{merged, components}
use Rattle.theory_steiner.specs.Spanning.{comes_before, placed, in_order_law, joins_parts, with_edge, taken_from, taken}
use Rattle.survey_core.specs.Survey.{Survey, survey_from, vertex_count, edge_count, problem_of}

-- P4: three junctions in one group, three tracks of price 1.
abbrev pub even : Survey
even = survey_from (1 ∷ 1 ∷ 1 ∷ []) (0 ∷ 1 ∷ 0 ∷ []) (1 ∷ 2 ∷ 2 ∷ []) (1 ∷ 1 ∷ 1 ∷ [])

-- Ties go to the lowest number, and the last track joins nothing.
pub even_taken : those_below 3 (taken (problem_of even)) ≡ 0 ∷ 1 ∷ []
unfolding those_below tabulate lookup memo merged components comes_before placed in_order_law joins_parts with_edge taken_from taken vertex_count edge_count problem_of
even_taken = refl

-- The same tracks, the first dearer and the last free, and one more beside the last.
abbrev pub uneven : Survey
uneven = survey_from (1 ∷ 1 ∷ 1 ∷ []) (0 ∷ 1 ∷ 0 ∷ 2 ∷ []) (1 ∷ 2 ∷ 2 ∷ 0 ∷ []) (2 ∷ 1 ∷ 0 ∷ 0 ∷ [])

-- Price comes before number: by number first, tracks 0 and 1 would be taken.
pub uneven_order : in_order_law (problem_of uneven) 4 ≡ 2 ∷ 3 ∷ 1 ∷ 0 ∷ []
unfolding comes_before placed in_order_law vertex_count edge_count problem_of
uneven_order = refl

pub uneven_taken : those_below 4 (taken (problem_of uneven)) ≡ 1 ∷ 2 ∷ []
unfolding those_below tabulate lookup memo merged components comes_before placed in_order_law joins_parts with_edge taken_from taken vertex_count edge_count problem_of
uneven_taken = refl
