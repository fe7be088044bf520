-- Floors of the ascent by computation. Each is the cost of the cheapest set of tracks.
use Rattle.std.specs.Prelude.{◌≡◌, refl, [], ◌∷◌}
use Rattle.base_finite.specs.Below.{counted, sum_below, count_below, tabulate, lookup, memo}
use Rattle.base_buffer.specs.Store.{remade}
use Rattle.theory_graph.specs.Component.{merged, components}
use Rattle.theory_directed.specs.Directed.{enters}
use Rattle.survey_core.specs.Survey.{survey_with, survey_from}
use Rattle.survey_lists.specs.Pouring.{home_below, home, poured_label, poured_groups}
use Rattle.floor_rule.specs.Ascent.{lesser, edge_of, tail_of, head_of, enters_at, flag_at, sweep, sweeps, reaching, least_rest, loaded, raised, raised_by, visit, visit_member, visit_members, visit_group, visit_groups, passes, prices, at_first, lowest_in, ascended, lowered, after_list, in_company, first_shares, shares_after, ascent_floor}
use Rattle.floor_rule.specs.Number.{lower_number, lowest_own, lowest_paired, number_of, numbered_groups}
use Rattle.floor_rule.specs.Floor.{ascent_of}

-- P10: two groups that cross.
pub crossing_groups_floor : ascent_of (survey_from (1 ∷ 2 ∷ 1 ∷ 2 ∷ []) (0 ∷ 1 ∷ 2 ∷ []) (1 ∷ 2 ∷ 3 ∷ []) (4 ∷ 2 ∷ 4 ∷ [])) ≡ 10
unfolding
    counted sum_below count_below tabulate lookup memo remade merged components enters home_below home poured_label poured_groups
    lesser edge_of tail_of head_of enters_at flag_at sweep sweeps reaching least_rest loaded raised raised_by visit visit_member visit_members visit_group visit_groups passes
    prices at_first lowest_in ascended lowered after_list in_company first_shares shares_after ascent_floor
    lower_number lowest_own lowest_paired number_of numbered_groups ascent_of
crossing_groups_floor = refl

-- Lists {0, 1} and {1, 2} are one group.
pub overlapping_lists_floor : ascent_of (survey_with (9 ∷ 9 ∷ 2 ∷ []) (0 ∷ 1 ∷ 0 ∷ []) (1 ∷ 2 ∷ 2 ∷ []) (3 ∷ 4 ∷ 5 ∷ []) (1 ∷ []) (2 ∷ [])) ≡ 7
unfolding
    counted sum_below count_below tabulate lookup memo remade merged components enters home_below home poured_label poured_groups
    lesser edge_of tail_of head_of enters_at flag_at sweep sweeps reaching least_rest loaded raised raised_by visit visit_member visit_members visit_group visit_groups passes
    prices at_first lowest_in ascended lowered after_list in_company first_shares shares_after ascent_floor
    lower_number lowest_own lowest_paired number_of numbered_groups ascent_of
overlapping_lists_floor = refl

-- P9: the spokes cost 9, the plan 10.
pub spokes_floor : ascent_of (survey_from (0 ∷ 1 ∷ 1 ∷ 1 ∷ []) (0 ∷ 0 ∷ 0 ∷ 1 ∷ 1 ∷ 2 ∷ []) (1 ∷ 2 ∷ 3 ∷ 2 ∷ 3 ∷ 3 ∷ []) (3 ∷ 3 ∷ 3 ∷ 5 ∷ 5 ∷ 5 ∷ [])) ≡ 9
unfolding
    counted sum_below count_below tabulate lookup memo remade merged components enters home_below home poured_label poured_groups
    lesser edge_of tail_of head_of enters_at flag_at sweep sweeps reaching least_rest loaded raised raised_by visit visit_member visit_members visit_group visit_groups passes
    prices at_first lowest_in ascended lowered after_list in_company first_shares shares_after ascent_floor
    lower_number lowest_own lowest_paired number_of numbered_groups ascent_of
spokes_floor = refl
