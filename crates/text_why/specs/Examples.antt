-- Reasons from the survey's text to their own, for P3 of document 01 and with a dear track more, and words that say a track number or do not, by computation.
use Rattle.std.specs.Prelude.{◌≡◌, refl, []}
use Rattle.base_finite.specs.Below.{counted, sum_below, count_below, any_below, all_below, those_below, tabulate, lookup, memo}
use Rattle.base_limits.specs.Verdict.{refuse_if, ◌before◌, lowest_below, outcome}
use Rattle.theory_graph.specs.Path.{without}
use Rattle.theory_graph.specs.Component.{merged, components}
use Rattle.theory_steiner.specs.Problem.{all_usable, joined, cost, separates, terminal, terminals}
use Rattle.theory_steiner.specs.Growth.{start, active, numbers, load, slack, delay_of, active_ends, delay_for, delay, better, winner_below, winner, pick, advance, state_at, grown}
use Rattle.theory_steiner.specs.Pruning.{needed, picked, kept}
use Rattle.theory_route.specs.First.{first_below}
use Rattle.theory_route.specs.Route.{are_linked, is_end, far_end, leads_on, steps_to, route_of}
use Rattle.survey_core.specs.Lists.{is_paired, in_list, same_list}
use Rattle.survey_core.specs.Pairs.{pairs_refusal}
use Rattle.survey_core.specs.Survey.{vertex_count, edge_count, member, same_group, problem_of, group_joined, components_of}
use Rattle.survey_core.specs.Refusal.{edge_refusal, survey_refusal, group_refusal}
use Rattle.why_rule.specs.Reason.{place_of, parted_list, is_parted, low_member, high_member, kept_reason, joined_after, first_or_zero, round_of, reason_of}
use Rattle.why_rule.specs.Why.{why_refusal, why_counts, route_in}
use Rattle.format_write.specs.Key.{ascii, refused_key, place_key, track_key, mark_key, group_key, from_key, to_key, route_key, round_key}
use Rattle.format_write.specs.Decimal.{digits_within, decimal, spelled_after}
use Rattle.format_write.specs.Text.{line_of, listed, refusal_text}
use Rattle.format_why.specs.ReasonText.{route_line, kept_text, mark_text, reason_text}
use Rattle.format_read.specs.Bytes.{byte_is, fixed_at, end_at}
use Rattle.format_read.specs.Items.{items_from}
use Rattle.format_read.specs.Step.{found, refused, ◌then◌, checked}
use Rattle.format_read.specs.Lines.{following, lines_from, lines_after}
use Rattle.format_read.specs.Number.{class_of, is_digit, digits_end, numeral_end, numeral_at, number_at, number_to, number_line}
use Rattle.format_also.specs.Pair.{owners_of, others_of, also_reader, also_at}
use Rattle.format_survey.specs.Line.{vertices_test, edges_test, group_test, tests_for, count_line, group_line, firsts_of, seconds_of, weights_of, edge_line, counts_at, group_lines, edge_lines, tail_at, tail_after, lines_of}
use Rattle.format_survey.specs.Reading.{body_at, survey_of, survey_at, step_outcome, reading}
use Rattle.text_plan.specs.Output.{survey_read}
use Rattle.text_why.specs.Output.{track_at, survey_reason, read_reason, reason_lines, why_output}

-- P3: without track 1 the two sites are parted.
pub kept_output : why_output (ascii "nodes=3\nlinks=2\nnode=1\nnode=0\nnode=1\nlink=0,1,3\nlink=1,2,4\n") 1 ≡ ascii "track=1\nmark=2\ngroup=1\nfrom=0\nto=2\nroute=0,1\n"
unfolding counted sum_below count_below any_below all_below those_below tabulate lookup memo refuse_if ◌before◌ lowest_below outcome without merged components
    all_usable joined cost separates terminal terminals start active numbers load slack delay_of active_ends delay_for delay better winner_below winner pick advance state_at grown
    needed picked kept first_below are_linked is_end far_end leads_on steps_to route_of vertex_count edge_count is_paired in_list same_list pairs_refusal member same_group problem_of group_joined components_of
    edge_refusal survey_refusal group_refusal place_of parted_list is_parted low_member high_member kept_reason joined_after first_or_zero round_of reason_of why_refusal why_counts route_in
    track_key mark_key group_key from_key to_key route_key digits_within decimal spelled_after line_of listed route_line kept_text mark_text reason_text
    byte_is fixed_at end_at ◌then◌ checked following lines_from lines_after class_of is_digit digits_end numeral_end numeral_at number_at number_to number_line
    vertices_test edges_test group_test tests_for count_line group_line firsts_of seconds_of weights_of edge_line counts_at group_lines edge_lines tail_at tail_after lines_of owners_of others_of also_reader also_at items_from body_at survey_of survey_at step_outcome reading
    survey_read survey_reason read_reason reason_lines why_output
kept_output = refl

-- A third track between the two sites is dear, and they are joined after round 2.
pub unpicked_output : why_output (ascii "nodes=3\nlinks=3\nnode=1\nnode=0\nnode=1\nlink=0,1,3\nlink=1,2,4\nlink=0,2,9\n") 2 ≡ ascii "track=2\nmark=0\nround=2\n"
unfolding counted sum_below count_below any_below all_below those_below tabulate lookup memo refuse_if ◌before◌ lowest_below outcome without merged components
    all_usable joined cost separates terminal terminals start active numbers load slack delay_of active_ends delay_for delay better winner_below winner pick advance state_at grown
    needed picked kept first_below are_linked is_end far_end leads_on steps_to route_of vertex_count edge_count is_paired in_list same_list pairs_refusal member same_group problem_of group_joined components_of
    edge_refusal survey_refusal group_refusal place_of parted_list is_parted low_member high_member kept_reason joined_after first_or_zero round_of reason_of why_refusal why_counts route_in
    track_key mark_key round_key digits_within decimal spelled_after line_of listed route_line kept_text mark_text reason_text
    byte_is fixed_at end_at ◌then◌ checked following lines_from lines_after class_of is_digit digits_end numeral_end numeral_at number_at number_to number_line
    vertices_test edges_test group_test tests_for count_line group_line firsts_of seconds_of weights_of edge_line counts_at group_lines edge_lines tail_at tail_after lines_of owners_of others_of also_reader also_at items_from body_at survey_of survey_at step_outcome reading
    survey_read survey_reason read_reason reason_lines why_output
unpicked_output = refl

-- P3 has no track 2.
pub unknown_output : why_output (ascii "nodes=3\nlinks=2\nnode=1\nnode=0\nnode=1\nlink=0,1,3\nlink=1,2,4\n") 2 ≡ ascii "refused=19\nplace=2\n"
unfolding counted sum_below count_below any_below all_below those_below tabulate lookup memo refuse_if ◌before◌ lowest_below outcome merged components
    all_usable vertex_count edge_count is_paired in_list same_list pairs_refusal member same_group problem_of group_joined components_of
    edge_refusal survey_refusal group_refusal why_refusal
    refused_key place_key digits_within decimal spelled_after line_of refusal_text
    byte_is fixed_at end_at ◌then◌ checked following lines_from lines_after class_of is_digit digits_end numeral_end numeral_at number_at number_to number_line
    vertices_test edges_test group_test tests_for count_line group_line firsts_of seconds_of weights_of edge_line counts_at group_lines edge_lines tail_at tail_after lines_of owners_of others_of also_reader also_at items_from body_at survey_of survey_at step_outcome reading
    survey_read survey_reason read_reason reason_lines why_output
unknown_output = refl

-- ---- track numbers

pub zero_said : track_at (ascii "0") ≡ found 0 1
unfolding spelled_after ◌then◌ end_at class_of is_digit digits_end numeral_end numeral_at number_at track_at
zero_said = refl

pub seven_digits_said : track_at (ascii "1234567") ≡ found 1234567 7
unfolding spelled_after ◌then◌ end_at class_of is_digit digits_end numeral_end numeral_at number_at track_at
seven_digits_said = refl

pub nothing_unsaid : track_at [] ≡ refused 16 0
unfolding spelled_after ◌then◌ end_at class_of is_digit digits_end numeral_end numeral_at number_at track_at
nothing_unsaid = refl

pub leading_zero_unsaid : track_at (ascii "04") ≡ refused 16 1
unfolding spelled_after ◌then◌ end_at class_of is_digit digits_end numeral_end numeral_at number_at track_at
leading_zero_unsaid = refl

pub line_end_unsaid : track_at (ascii "4\n") ≡ refused 16 1
unfolding spelled_after ◌then◌ end_at class_of is_digit digits_end numeral_end numeral_at number_at track_at
line_end_unsaid = refl
