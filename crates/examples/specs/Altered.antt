-- Marks altered by hand (document 02, No. 7), worked by hand: one list, and one claim about it, proved by computation. Each survey is grown, its marks are replaced, dropping judges those, and the checker
-- looks at what dropping leaves with the moat records of growing.
use Rattle.std.specs.Prelude.{ℕ, ◌≡◌, refl, List, [], ◌∷◌, map}
use Rattle.base_finite.specs.Below.{counted, sum_below, count_below, any_below, all_below, those_below, tabulate, lookup, memo}
use Rattle.theory_graph.specs.Path.{without, crosses}
use Rattle.theory_graph.specs.Component.{merged, components}
use Rattle.base_limits.specs.Verdict.{refuse_if, ◌before◌, lowest_below, Outcome, refusal, answer, outcome, written}
use Rattle.format_record.specs.Bits.{bit_at, member_at, byte_of, bytes_of, low_bytes, number_of}
use Rattle.format_record.specs.Record.{record_of, record_at, value_in, member_in}
use Rattle.theory_steiner.specs.Problem.{all_usable, joined, cost, separates, terminal, terminals}
use Rattle.theory_steiner.specs.Growth.{start, active, numbers, load, slack, delay_of, delay, better, winner_below, winner, pick, advance, state_at, grown, active_ends, delay_for}
use Rattle.theory_steiner.specs.Dual.{weigh, total, dual_load}
use Rattle.theory_steiner.specs.Dual.{duals_of as grown_duals}
use Rattle.theory_steiner.specs.Pruning.{needed, picked, kept, mark_of, mark, dual_bound}
use Rattle.survey_core.specs.Lists.{is_paired, in_list, same_list}
use Rattle.survey_core.specs.Pairs.{is_rising, pair_refusal, pairs_refusal}
use Rattle.survey_core.specs.Survey.{Survey, survey_from, vertex_count, edge_count, member, same_group, problem_of, group_joined, components_of}
use Rattle.survey_core.specs.Refusal.{edge_refusal, survey_refusal, group_refusal}
use Rattle.survey_components.specs.Labels.{picked_in}
use Rattle.survey_components.specs.Forest.{closes_loop, loop_refusal}
use Rattle.check_rule.specs.Check.{Checked, dual_at, duals_in, kept_by, shape_refusal, dual_refusal, rule_refusal, checked_of, check_refusal, checking}
use Rattle.plan_draw.specs.Drawing.{records_of}
use Rattle.plan_rule.specs.Plan.{plan_of}
use Rattle.plan_rule.specs.Growing.{picked_marks}
use Rattle.plan_rule.specs.Dropping.{drop_refusal, DropCounts, drop_counts_of, dropping, needed_marks, marks_dropped}

-- What growing picks, the marks in its place, what dropping answers of them and leaves, and what the checker answers of that.
pub record Altered : Type 0 where
  pub survey : Survey
  pub by_growing : List ℕ
  pub by_hand : List ℕ
  pub answered : Outcome DropCounts
  pub left : List ℕ
  pub checked : Outcome Checked

unfoldable pub altered_by : Survey → (marks : List ℕ) → Altered
altered_by s marks =
    record {
      survey = s;
      by_growing = picked_marks (problem_of s);
      by_hand = marks;
      answered = dropping s marks;
      left = marks_dropped s marks;
      checked = checking s (marks_dropped s marks) (records_of (plan_of (problem_of s)).duals);
    }

abbrev dropped : ℕ → ℕ → Outcome DropCounts
dropped k c = answer (record { terminals = k; cost = c })

abbrev passed : ℕ → ℕ → ℕ → Outcome Checked
passed k c b = answer (record { terminals = k; cost = c; bound = b })

-- Two junctions of one group, and two tracks between them.
abbrev twin : ℕ → ℕ → Survey
twin x y = survey_from (1 ∷ 1 ∷ []) (0 ∷ 0 ∷ []) (1 ∷ 1 ∷ []) (x ∷ y ∷ [])

abbrev altered : Survey → (by_growing by_hand : List ℕ) → Outcome DropCounts → (left : List ℕ) → Outcome Checked → Altered
altered s grown marks a l c = record { survey = s; by_growing = grown; by_hand = marks; answered = a; left = l; checked = c }

unfoldable pub alterations : List Altered
alterations =
    -- the picked track gives way to a dearer one, which is needed then: 2 * 50 is more than 1 * 10
    altered (twin 5 50) (1 ∷ 0 ∷ []) (0 ∷ 1 ∷ []) (dropped 2 50) (0 ∷ 2 ∷ []) (refusal 15 0)
    -- to one of the same price: 2 * 5 is 1 * 10
    ∷ altered (twin 5 5) (1 ∷ 0 ∷ []) (0 ∷ 1 ∷ []) (dropped 2 5) (0 ∷ 2 ∷ []) (passed 2 5 10)
    -- a track is added beside those picked: it is dropped again, and the plan is what it was
    ∷ altered (survey_from (1 ∷ 1 ∷ 0 ∷ []) (0 ∷ 0 ∷ []) (1 ∷ 2 ∷ []) (3 ∷ 9 ∷ [])) (1 ∷ 0 ∷ []) (1 ∷ 1 ∷ []) (dropped 2 3) (2 ∷ 1 ∷ []) (passed 2 3 6)
    -- a parallel one closes a loop; and the marks as they are then keep nothing
    ∷ altered (twin 5 5) (1 ∷ 0 ∷ []) (1 ∷ 1 ∷ []) (refusal 21 1) (1 ∷ 1 ∷ []) (refusal 14 1)
    -- the picked track is taken away
    ∷ altered (twin 5 5) (1 ∷ 0 ∷ []) (0 ∷ 0 ∷ []) (refusal 14 1) (0 ∷ 0 ∷ []) (refusal 14 1)
    -- a kept track is no mark for dropping
    ∷ altered (twin 5 5) (1 ∷ 0 ∷ []) (2 ∷ 0 ∷ []) (refusal 10 0) (2 ∷ 0 ∷ []) (passed 2 5 10)
    -- a mark too many
    ∷ altered (twin 5 5) (1 ∷ 0 ∷ []) (1 ∷ 0 ∷ 0 ∷ []) (refusal 9 0) (1 ∷ 0 ∷ 0 ∷ []) (refusal 9 0)
    ∷ []

-- Each is what its entry says.
pub alterations_hold : map (λ x. altered_by x.survey x.by_hand) alterations ≡ alterations
unfolding counted sum_below count_below any_below all_below those_below tabulate lookup memo without crosses merged components refuse_if ◌before◌ lowest_below outcome written
    bit_at member_at byte_of bytes_of low_bytes number_of record_of record_at value_in member_in
    all_usable joined cost separates terminal terminals start active numbers load slack delay_of active_ends delay_for delay better winner_below winner pick advance state_at grown grown_duals weigh total dual_load
    needed picked kept mark_of mark dual_bound vertex_count edge_count is_paired in_list same_list member same_group problem_of group_joined components_of edge_refusal is_rising pair_refusal pairs_refusal survey_refusal
    group_refusal picked_in closes_loop loop_refusal dual_at duals_in kept_by shape_refusal dual_refusal rule_refusal checked_of check_refusal checking records_of plan_of picked_marks
    drop_refusal drop_counts_of dropping needed_marks marks_dropped altered_by alterations
alterations_hold = refl
