-- `merge` meets its contract: refused with nothing written, or all six buffers (`merge_goes`).
use native.Mathlib.Omega.{arith}
use mathlib.Core.Path.{refl, sym, ◌∙◌}
use lib.ListN.{length}
use Rattle.base_finite.specs.Below.{tabulate}
use Rattle.base_limits.specs.Limits.{max_vertices, max_pairs}
use Rattle.survey_core.specs.Survey.{survey_with, lists_of}
use Rattle.survey_core.proofs.Laws.Refusal.{fine_survey}
use Rattle.merge_rule.specs.Ties.{ties_from, placed}
use Rattle.merge_core.specs.Pairs.{pairs_by}
use Rattle.merge_core.specs.Laws.Merge.{stored_long, merged_most, first_stops, second_stops, ties_stop, large_stops, short_stops, pairs_kept, merge_goes}
use borrow.Author.Rules.{rules}
use Rattle.merge_core.proofs.merge.Goals as goal

-- the first's 1 to 6, 18
pub returns-in-Refused : goal.returns-in-Refused
returns-in-Refused c =
    let x = c.args in let a = survey_with x.groups.now x.firsts.now x.seconds.now x.weights.now x.owners.now x.others.now in let b = survey_with x.second_groups.now x.second_firsts.now x.second_seconds.now x.second_weights.now x.second_owners.now x.second_others.now in let ties = ties_from x.tie_firsts.now x.tie_seconds.now in let out = survey_with x.out_groups.now x.out_firsts.now x.out_seconds.now x.out_weights.now x.out_owners.now x.out_others.now in let whole = first_stops a b ties out (record { own_byte = λ v. omega (arith, c.shared_slice_known-1.given v); other_byte = λ i. omega (arith, c.shared_slice_known-6-1.given i) }) (record { own_byte = λ v. omega (arith, c.shared_slice_known-7-1.given v); other_byte = λ i. omega (arith, c.shared_slice_known-12-1.given i) }) c.survey_refusal-first_found.ensures c.in-Refused.is in record { result_value = whole.0; out_others_value = whole.1.0; promises = whole.1.1 }

-- the second's
pub returns-in-Refused-second_found : goal.returns-in-Refused-second_found
returns-in-Refused-second_found c =
    let x = c.args in let a = survey_with x.groups.now x.firsts.now x.seconds.now x.weights.now x.owners.now x.others.now in let b = survey_with x.second_groups.now x.second_firsts.now x.second_seconds.now x.second_weights.now x.second_owners.now x.second_others.now in let ties = ties_from x.tie_firsts.now x.tie_seconds.now in let out = survey_with x.out_groups.now x.out_firsts.now x.out_seconds.now x.out_weights.now x.out_owners.now x.out_others.now in let whole = second_stops a b ties out (record { own_byte = λ v. omega (arith, c.shared_slice_known-1.given v); other_byte = λ i. omega (arith, c.shared_slice_known-6-1.given i) }) (record { own_byte = λ v. omega (arith, c.shared_slice_known-7-1.given v); other_byte = λ i. omega (arith, c.shared_slice_known-12-1.given i) }) c.survey_refusal-first_found.ensures c.in_default.is c.survey_refusal-second_found.ensures c.in-Refused-second_found.is in record { result_value = whole.0; out_others_value = whole.1.0; promises = whole.1.1 }

-- 2 and 22 of the ties
pub returns-in-Refused-ties_found : goal.returns-in-Refused-ties_found
returns-in-Refused-ties_found c =
    let x = c.args in let a = survey_with x.groups.now x.firsts.now x.seconds.now x.weights.now x.owners.now x.others.now in let b = survey_with x.second_groups.now x.second_firsts.now x.second_seconds.now x.second_weights.now x.second_owners.now x.second_others.now in let ties = ties_from x.tie_firsts.now x.tie_seconds.now in let out = survey_with x.out_groups.now x.out_firsts.now x.out_seconds.now x.out_weights.now x.out_owners.now x.out_others.now in let whole = ties_stop a b ties out (record { own_byte = λ v. omega (arith, c.shared_slice_known-1.given v); other_byte = λ i. omega (arith, c.shared_slice_known-6-1.given i) }) (record { own_byte = λ v. omega (arith, c.shared_slice_known-7-1.given v); other_byte = λ i. omega (arith, c.shared_slice_known-12-1.given i) }) c.survey_refusal-first_found.ensures c.in_default.is c.survey_refusal-second_found.ensures c.in_default-second_found.is c.ties_refusal-ties_found.ensures c.in-Refused-ties_found.is in record { result_value = whole.0; out_others_value = whole.1.0; promises = whole.1.1 }

pub store_places-vertices-requires : goal.store_places-vertices-requires
store_places-vertices-requires c = let first = fine_survey _ (sym c.survey_refusal-first_found.ensures ∙ c.in_default.is) in let second = fine_survey _ (sym c.survey_refusal-second_found.ensures ∙ c.in_default-second_found.is) in record { n_le_max_vertices = first.few; m_le_max_vertices = second.few }

pub overflow_add-edges : goal.overflow_add-edges
overflow_add-edges c = let first = fine_survey _ (sym c.survey_refusal-first_found.ensures ∙ c.in_default.is) in let second = fine_survey _ (sym c.survey_refusal-second_found.ensures ∙ c.in_default-second_found.is) in let few = first.edges_few in let more = second.edges_few in search (rules, few, more)

pub slice_bounds-collect_pairs-end : goal.slice_bounds-collect_pairs-end
slice_bounds-collect_pairs-end c =
    let x = c.args in let a = survey_with x.groups.now x.firsts.now x.seconds.now x.weights.now x.owners.now x.others.now in let b = survey_with x.second_groups.now x.second_firsts.now x.second_seconds.now x.second_weights.now x.second_owners.now x.second_others.now in let ties = ties_from x.tie_firsts.now x.tie_seconds.now in stored_long max_vertices (tabulate (length b.groups) (placed (length a.groups) ties)) c.store_places-vertices.ensures.places_value

pub collect_pairs-pairs-requires : goal.collect_pairs-pairs-requires
collect_pairs-pairs-requires c =
    let x = c.args in let a = survey_with x.groups.now x.firsts.now x.seconds.now x.weights.now x.owners.now x.others.now in let b = survey_with x.second_groups.now x.second_firsts.now x.second_seconds.now x.second_weights.now x.second_owners.now x.second_others.now in let ties = ties_from x.tie_firsts.now x.tie_seconds.now in let first = fine_survey _ (sym c.survey_refusal-first_found.ensures ∙ c.in_default.is) in let second = fine_survey _ (sym c.survey_refusal-second_found.ensures ∙ c.in_default-second_found.is) in merged_most a b ties c.store_places-vertices.ensures.value first.few second.few

-- 1, 3, 18 of the result
pub returns-in-Refused-large : goal.returns-in-Refused-large
returns-in-Refused-large c =
    let x = c.args in let a = survey_with x.groups.now x.firsts.now x.seconds.now x.weights.now x.owners.now x.others.now in let b = survey_with x.second_groups.now x.second_firsts.now x.second_seconds.now x.second_weights.now x.second_owners.now x.second_others.now in let ties = ties_from x.tie_firsts.now x.tie_seconds.now in let out = survey_with x.out_groups.now x.out_firsts.now x.out_seconds.now x.out_weights.now x.out_owners.now x.out_others.now in let whole = large_stops a b ties out (record { own_byte = λ v. omega (arith, c.shared_slice_known-1.given v); other_byte = λ i. omega (arith, c.shared_slice_known-6-1.given i) }) (record { own_byte = λ v. omega (arith, c.shared_slice_known-7-1.given v); other_byte = λ i. omega (arith, c.shared_slice_known-12-1.given i) }) c.survey_refusal-first_found.ensures c.in_default.is c.survey_refusal-second_found.ensures c.in_default-second_found.is c.ties_refusal-ties_found.ensures c.in_default-ties_found.is c.store_places-vertices.ensures.places_value c.store_places-vertices.ensures.value refl c.collect_pairs-pairs.ensures.result_value c.large_refusal-large.ensures c.in-Refused-large.is in record { result_value = whole.0; out_others_value = whole.1.0; promises = whole.1.1 }

-- 7
pub returns-in-Refused-short : goal.returns-in-Refused-short
returns-in-Refused-short c =
    let x = c.args in let a = survey_with x.groups.now x.firsts.now x.seconds.now x.weights.now x.owners.now x.others.now in let b = survey_with x.second_groups.now x.second_firsts.now x.second_seconds.now x.second_weights.now x.second_owners.now x.second_others.now in let ties = ties_from x.tie_firsts.now x.tie_seconds.now in let out = survey_with x.out_groups.now x.out_firsts.now x.out_seconds.now x.out_weights.now x.out_owners.now x.out_others.now in let whole = short_stops a b ties out (record { own_byte = λ v. omega (arith, c.shared_slice_known-1.given v); other_byte = λ i. omega (arith, c.shared_slice_known-6-1.given i) }) (record { own_byte = λ v. omega (arith, c.shared_slice_known-7-1.given v); other_byte = λ i. omega (arith, c.shared_slice_known-12-1.given i) }) c.survey_refusal-first_found.ensures c.in_default.is c.survey_refusal-second_found.ensures c.in_default-second_found.is c.ties_refusal-ties_found.ensures c.in_default-ties_found.is c.store_places-vertices.ensures.places_value c.store_places-vertices.ensures.value refl c.collect_pairs-pairs.ensures.result_value c.large_refusal-large.ensures c.in_default-large.is c.room_refusal-short.ensures c.in-Refused-short.is in record { result_value = whole.0; out_others_value = whole.1.0; promises = whole.1.1 }

pub slice_bounds-write_groups-end : goal.slice_bounds-write_groups-end
slice_bounds-write_groups-end c =
    let x = c.args in let a = survey_with x.groups.now x.firsts.now x.seconds.now x.weights.now x.owners.now x.others.now in let b = survey_with x.second_groups.now x.second_firsts.now x.second_seconds.now x.second_weights.now x.second_owners.now x.second_others.now in let ties = ties_from x.tie_firsts.now x.tie_seconds.now in stored_long max_vertices (tabulate (length b.groups) (placed (length a.groups) ties)) c.store_places-vertices.ensures.places_value

pub slice_bounds-write_ends-end : goal.slice_bounds-write_ends-end
slice_bounds-write_ends-end c =
    let x = c.args in let a = survey_with x.groups.now x.firsts.now x.seconds.now x.weights.now x.owners.now x.others.now in let b = survey_with x.second_groups.now x.second_firsts.now x.second_seconds.now x.second_weights.now x.second_owners.now x.second_others.now in let ties = ties_from x.tie_firsts.now x.tie_seconds.now in stored_long max_vertices (tabulate (length b.groups) (placed (length a.groups) ties)) c.store_places-vertices.ensures.places_value

pub write_ends-requires : goal.write_ends-requires
write_ends-requires c =
    let first = fine_survey _ (sym c.survey_refusal-first_found.ensures ∙ c.in_default.is) in let second = fine_survey _ (sym c.survey_refusal-second_found.ensures ∙ c.in_default-second_found.is) in record { ends_len_bound = first.edges_few; second_ends_len_bound = second.edges_few }

pub slice_bounds-write_ends-end-2 : goal.slice_bounds-write_ends-end-2
slice_bounds-write_ends-end-2 c =
    let x = c.args in let a = survey_with x.groups.now x.firsts.now x.seconds.now x.weights.now x.owners.now x.others.now in let b = survey_with x.second_groups.now x.second_firsts.now x.second_seconds.now x.second_weights.now x.second_owners.now x.second_others.now in let ties = ties_from x.tie_firsts.now x.tie_seconds.now in stored_long max_vertices (tabulate (length b.groups) (placed (length a.groups) ties)) c.store_places-vertices.ensures.places_value

pub write_ends-requires-2 : goal.write_ends-requires-2
write_ends-requires-2 c =
    let first = fine_survey _ (sym c.survey_refusal-first_found.ensures ∙ c.in_default.is) in let second = fine_survey _ (sym c.survey_refusal-second_found.ensures ∙ c.in_default-second_found.is) in record { ends_len_bound = omega (arith, first.edges_few, first.seconds_long); second_ends_len_bound = omega (arith, second.edges_few, second.seconds_long) }

pub write_weights-requires : goal.write_weights-requires
write_weights-requires c =
    let first = fine_survey _ (sym c.survey_refusal-first_found.ensures ∙ c.in_default.is) in let second = fine_survey _ (sym c.survey_refusal-second_found.ensures ∙ c.in_default-second_found.is) in record { weights_len_bound = omega (arith, first.edges_few, first.weights_long); second_weights_len_bound = omega (arith, second.edges_few, second.weights_long) }

pub slice_bounds-write_pairs-end : goal.slice_bounds-write_pairs-end
slice_bounds-write_pairs-end c =
    let x = c.args in let a = survey_with x.groups.now x.firsts.now x.seconds.now x.weights.now x.owners.now x.others.now in let b = survey_with x.second_groups.now x.second_firsts.now x.second_seconds.now x.second_weights.now x.second_owners.now x.second_others.now in let ties = ties_from x.tie_firsts.now x.tie_seconds.now in stored_long max_pairs (pairs_by (lists_of a) (lists_of b) _ _) c.collect_pairs-pairs.ensures.pairs_value

pub write_pairs-requires : goal.write_pairs-requires
write_pairs-requires c =
    let x = c.args in let a = survey_with x.groups.now x.firsts.now x.seconds.now x.weights.now x.owners.now x.others.now in let b = survey_with x.second_groups.now x.second_firsts.now x.second_seconds.now x.second_weights.now x.second_owners.now x.second_others.now in let ties = ties_from x.tie_firsts.now x.tie_seconds.now in let out = survey_with x.out_groups.now x.out_firsts.now x.out_seconds.now x.out_weights.now x.out_owners.now x.out_others.now in omega (arith, pairs_kept a b ties out (record { own_byte = λ v. omega (arith, c.shared_slice_known-1.given v); other_byte = λ i. omega (arith, c.shared_slice_known-6-1.given i) }) (record { own_byte = λ v. omega (arith, c.shared_slice_known-7-1.given v); other_byte = λ i. omega (arith, c.shared_slice_known-12-1.given i) }) c.survey_refusal-first_found.ensures c.in_default.is c.survey_refusal-second_found.ensures c.in_default-second_found.is c.ties_refusal-ties_found.ensures c.in_default-ties_found.is c.store_places-vertices.ensures.places_value c.store_places-vertices.ensures.value refl c.collect_pairs-pairs.ensures.result_value c.large_refusal-large.ensures c.in_default-large.is c.room_refusal-short.ensures c.in_default-short.is, stored_long max_pairs (pairs_by (lists_of a) (lists_of b) _ _) c.collect_pairs-pairs.ensures.pairs_value)

pub returns : goal.returns
returns c =
    let x = c.args in let a = survey_with x.groups.now x.firsts.now x.seconds.now x.weights.now x.owners.now x.others.now in let b = survey_with x.second_groups.now x.second_firsts.now x.second_seconds.now x.second_weights.now x.second_owners.now x.second_others.now in let ties = ties_from x.tie_firsts.now x.tie_seconds.now in let out = survey_with x.out_groups.now x.out_firsts.now x.out_seconds.now x.out_weights.now x.out_owners.now x.out_others.now in let whole = merge_goes a b ties out (record { own_byte = λ v. omega (arith, c.shared_slice_known-1.given v); other_byte = λ i. omega (arith, c.shared_slice_known-6-1.given i) }) (record { own_byte = λ v. omega (arith, c.shared_slice_known-7-1.given v); other_byte = λ i. omega (arith, c.shared_slice_known-12-1.given i) }) c.survey_refusal-first_found.ensures c.in_default.is c.survey_refusal-second_found.ensures c.in_default-second_found.is c.ties_refusal-ties_found.ensures c.in_default-ties_found.is c.store_places-vertices.ensures.places_value c.store_places-vertices.ensures.value refl c.collect_pairs-pairs.ensures.result_value c.large_refusal-large.ensures c.in_default-large.is c.room_refusal-short.ensures c.in_default-short.is c.collect_pairs-pairs.ensures.pairs_value c.write_groups.ensures c.write_ends.ensures c.write_ends-2.ensures c.write_weights.ensures c.write_pairs.ensures.owners_value c.write_pairs.ensures.others_value in record { result_value = whole.0; out_others_value = whole.1.0; promises = whole.1.1 }
