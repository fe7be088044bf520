-- Document 01's printout ('Survey text and printed plan') from the survey's text to the plan's, and a malformed text's refusal, by computation.
use Rattle.std.specs.Prelude.{◌≡◌, refl}
use Rattle.base_finite.specs.Below.{counted, sum_below, count_below, any_below, all_below, those_below, tabulate, lookup, memo}
use Rattle.base_limits.specs.Verdict.{refuse_if, ◌before◌, lowest_below, outcome}
use Rattle.theory_graph.specs.Path.{without}
use Rattle.theory_graph.specs.Component.{merged, components}
use Rattle.theory_steiner.specs.Problem.{all_usable, joined, cost, separates, terminal, terminals}
use Rattle.theory_steiner.specs.Growth.{start, active, numbers, load, slack, delay_of, active_ends, delay_for, delay, better, winner_below, winner, pick, advance, state_at, grown}
use Rattle.theory_steiner.specs.Dual.{duals_of}
use Rattle.theory_steiner.specs.Pruning.{needed, picked, kept, mark_of, mark, dual_bound}
use Rattle.survey_core.specs.Lists.{is_paired, in_list, same_list}
use Rattle.survey_core.specs.Pairs.{is_rising, pair_refusal, pairs_refusal}
use Rattle.survey_core.specs.Survey.{vertex_count, edge_count, member, same_group, problem_of, group_joined, components_of}
use Rattle.survey_core.specs.Refusal.{edge_refusal, survey_refusal, group_refusal}
use Rattle.plan_draw.specs.Drawing.{records_of}
use Rattle.plan_rule.specs.Plan.{plan_of, plan_refusal, planning}
use Rattle.format_record.specs.Bits.{bit_at, byte_of, bytes_of, member_at, low_bytes, number_of}
use Rattle.format_record.specs.Record.{record_of, value_in, member_in, record_at}
use Rattle.format_write.specs.Key.{ascii, terminals_key, cost_key, bound_key, rounds_key, kept_key, dual_key, refused_key, place_key}
use Rattle.format_write.specs.Decimal.{digits_within, decimal, spelled_after}
use Rattle.format_write.specs.Text.{line_of, listed, members_of, dual_line, text_below, kept_line, kept_lines, dual_lines, count_lines, plan_text, refusal_text}
use Rattle.format_read.specs.Bytes.{byte_is, fixed_at, end_at}
use Rattle.format_read.specs.Items.{items_from}
use Rattle.format_read.specs.Step.{◌then◌, checked}
use Rattle.format_read.specs.Lines.{following, lines_from, lines_after}
use Rattle.format_read.specs.Number.{class_of, is_digit, digits_end, numeral_end, numeral_at, number_at, number_to, number_line}
use Rattle.format_also.specs.Pair.{owners_of, others_of, rank, pair_at, also_test, also_line, also_reader, also_at}
use Rattle.format_survey.specs.Line.{vertices_test, edges_test, group_test, tests_for, count_line, group_line, firsts_of, seconds_of, weights_of, edge_line, counts_at, group_lines, edge_lines, tail_at, tail_after, lines_of}
use Rattle.format_survey.specs.Reading.{body_at, survey_of, survey_at, step_outcome, reading}
use Rattle.text_plan.specs.Output.{survey_read, survey_plan, read_plan, text_plan, outcome_text, plan_output}

pub p3_output : plan_output (ascii "nodes=3\nlinks=2\nnode=1\nnode=0\nnode=1\nlink=0,1,3\nlink=1,2,4\n")
    ≡ ascii "sites=2\ncost=7\nbound=14\nrounds=2\nkeep=0\nkeep=1\nmoat=6:0\nmoat=7:2\nmoat=1:0,1\n"
unfolding counted sum_below count_below any_below all_below those_below tabulate lookup memo refuse_if ◌before◌ lowest_below outcome without merged components
    all_usable joined cost separates terminal terminals start active numbers load slack delay_of active_ends delay_for delay better winner_below winner pick advance state_at grown duals_of
    needed picked kept mark_of mark dual_bound vertex_count edge_count is_paired in_list same_list pairs_refusal member same_group problem_of group_joined components_of edge_refusal survey_refusal group_refusal
    records_of plan_of plan_refusal planning bit_at byte_of bytes_of member_at low_bytes number_of record_of value_in member_in record_at
    terminals_key cost_key bound_key rounds_key kept_key dual_key digits_within decimal spelled_after line_of listed members_of dual_line text_below kept_line kept_lines dual_lines count_lines plan_text
    byte_is fixed_at end_at ◌then◌ checked following lines_from lines_after class_of is_digit digits_end numeral_end numeral_at number_at number_to number_line
    vertices_test edges_test group_test tests_for count_line group_line firsts_of seconds_of weights_of edge_line counts_at group_lines edge_lines tail_at tail_after lines_of owners_of others_of also_reader also_at items_from body_at survey_of survey_at step_outcome reading
    survey_read survey_plan read_plan text_plan outcome_text plan_output
p3_output = refl

-- The same survey, where junction 1 belongs to group 1 by an also line: three sites, and each of them grows.
pub paired_output : plan_output (ascii "nodes=3\nlinks=2\nnode=1\nnode=0\nnode=1\nalso=1,1\nlink=0,1,3\nlink=1,2,4\n")
    ≡ ascii "sites=3\ncost=7\nbound=11\nrounds=2\nkeep=0\nkeep=1\nmoat=3:0\nmoat=3:1\nmoat=4:2\nmoat=1:0,1\n"
unfolding counted sum_below count_below any_below all_below those_below tabulate lookup memo refuse_if ◌before◌ lowest_below outcome without merged components
    all_usable joined cost separates terminal terminals start active numbers load slack delay_of active_ends delay_for delay better winner_below winner pick advance state_at grown duals_of
    needed picked kept mark_of mark dual_bound vertex_count edge_count is_paired in_list same_list is_rising pair_refusal pairs_refusal member same_group problem_of group_joined components_of edge_refusal survey_refusal group_refusal
    records_of plan_of plan_refusal planning bit_at byte_of bytes_of member_at low_bytes number_of record_of value_in member_in record_at
    terminals_key cost_key bound_key rounds_key kept_key dual_key digits_within decimal spelled_after line_of listed members_of dual_line text_below kept_line kept_lines dual_lines count_lines plan_text
    byte_is fixed_at end_at ◌then◌ checked following lines_from lines_after class_of is_digit digits_end numeral_end numeral_at number_at number_to number_line
    vertices_test edges_test group_test tests_for count_line group_line firsts_of seconds_of weights_of edge_line counts_at group_lines edge_lines tail_at tail_after lines_of owners_of others_of rank pair_at also_test also_line also_reader also_at items_from body_at survey_of survey_at step_outcome reading
    survey_read survey_plan read_plan text_plan outcome_text plan_output
paired_output = refl

-- 'Surveys worked by hand': `nodes=03` gives 16 at 7.
pub malformed_output : plan_output (ascii "nodes=03\n") ≡ ascii "refused=16\nplace=7\n"
unfolding refuse_if ◌before◌ refused_key place_key digits_within decimal spelled_after line_of refusal_text byte_is fixed_at ◌then◌ checked class_of is_digit digits_end numeral_end numeral_at number_at number_to number_line
    vertices_test edges_test group_test tests_for count_line counts_at survey_at step_outcome reading survey_read read_plan text_plan outcome_text plan_output
malformed_output = refl
