-- The surveys worked by hand (document 01), P1 to P12, and two with pairs (document 02, No. 2): one list, and one claim about it, proved by computation. The claim is about the definitions that
-- the contract of `plan` cites: `counting`, `marks_after` and `records_after`, for a call whose buffers are just long enough.
use Rattle.std.specs.Prelude.{ℕ, ◌+◌, ◌*◌, ◌-◌, ◌^◌, ◌≡◌, refl, Bool, true, false, ◌||◌, List, [], ◌∷◌, ◌++◌, map, length, drop, replicate, eqb}
use Rattle.base_finite.specs.Below.{counted, sum_below, count_below, any_below, all_below, those_below, tabulate, lookup, memo}
use Rattle.theory_graph.specs.Path.{without}
use Rattle.theory_graph.specs.Component.{merged, components}
use Rattle.base_limits.specs.Limits.{value_bytes, member_bytes, record_bytes, duals_for}
use Rattle.base_limits.specs.Verdict.{refuse_if, ◌before◌, lowest_below, Outcome, refusal, answer, outcome, written}
use Rattle.base_limits.specs.declared.Verdict.TheVariants.{Fine}
use Rattle.format_record.specs.Bits.{byte_of, bytes_of, low_bytes}
use Rattle.format_record.specs.Record.{record_of}
use Rattle.theory_steiner.specs.Problem.{all_usable, joined, cost, separates, terminal, terminals}
use Rattle.theory_steiner.specs.Growth.{start, active, numbers, load, slack, delay_of, delay, better, winner_below, winner, pick, advance, state_at, grown, active_ends, delay_for}
use Rattle.theory_steiner.specs.Dual.{duals_of as grown_duals}
use Rattle.theory_steiner.specs.Pruning.{needed, picked, kept, mark_of, mark, dual_bound}
use Rattle.survey_core.specs.Lists.{is_paired, in_list, same_list}
use Rattle.survey_core.specs.Pairs.{is_rising, pair_refusal, pairs_refusal}
use Rattle.survey_core.specs.Survey.{Survey, vertex_count, edge_count, member, same_group, problem_of, group_joined, components_of}
use Rattle.survey_core.specs.Refusal.{edge_refusal, survey_refusal, group_refusal}
use Rattle.plan_draw.specs.Drawing.{records_of, records_over}
use Rattle.plan_rule.specs.Plan.{plan_of, plan_refusal, PlanCounts, plan_counts_of, counting, marks_after, records_after}

-- ---- an entry

-- One track, which document 01 writes u-v:price.
pub record ExampleEdge : Type 0 where
  pub first_end : ℕ
  pub second_end : ℕ
  pub edge_weight : ℕ

-- A moat as document 01 writes it: its amount and its members, rising.
pub record DualFigures : Type 0 where
  pub value : ℕ
  pub members : List ℕ

-- What document 01 says of a plan: the counts, the two sides of the rule of refusal 15 (k times cost, k - 1 times bound; P4), the marks and the moats.
pub record PlanFigures : Type 0 where
  pub terminals : ℕ
  pub cost : ℕ
  pub bound : ℕ
  pub rounds : ℕ
  pub times_cost : ℕ
  pub times_bound : ℕ
  pub marks : List ℕ
  pub duals : List DualFigures

-- A set of tracks: whether it joins every group, and its cost (P9's spokes).
pub record SetFigures : Type 0 where
  pub set_edges : List ℕ
  pub joins : Bool
  pub set_cost : ℕ

-- One pair (v, g) of document 02, No. 2.
pub record ExamplePair : Type 0 where
  pub pair_vertex_law : ℕ
  pub pair_group_law : ℕ

pub record PlanExample : Type 0 where
  pub groups : List ℕ
  pub pairs : List ExamplePair
  pub example_edges : List ExampleEdge
  pub expected : Outcome PlanFigures
  pub sets : List SetFigures

abbrev edge : ℕ → ℕ → ℕ → ExampleEdge
edge u v w = record { first_end = u; second_end = v; edge_weight = w }

abbrev dual : ℕ → List ℕ → DualFigures
dual value members = record { value = value; members = members }

abbrev joining : List ℕ → ℕ → SetFigures
joining edges c = record { set_edges = edges; joins = true; set_cost = c }

abbrev pair : ℕ → ℕ → ExamplePair
pair v g = record { pair_vertex_law = v; pair_group_law = g }

-- Without pairs, and with.
abbrev example : List ℕ → List ExampleEdge → Outcome PlanFigures → List SetFigures → PlanExample
example groups edges expected sets = record { groups = groups; pairs = []; example_edges = edges; expected = expected; sets = sets }

abbrev example_with : List ℕ → List ExamplePair → List ExampleEdge → Outcome PlanFigures → List SetFigures → PlanExample
example_with groups pairs edges expected sets = record { groups = groups; pairs = pairs; example_edges = edges; expected = expected; sets = sets }

-- k, cost, bound, rounds; k times cost, k - 1 times bound; marks, moats
abbrev finished : ℕ → ℕ → ℕ → ℕ → ℕ → ℕ → List ℕ → List DualFigures → Outcome PlanFigures
finished k c b r kc kb marks duals =
    answer (record { terminals = k; cost = c; bound = b; rounds = r; times_cost = kc; times_bound = kb; marks = marks; duals = duals })

unfoldable pub example_survey : PlanExample → Survey
example_survey x =
    record {
      groups = x.groups;
      firsts = map (λ e. e.first_end) x.example_edges;
      seconds = map (λ e. e.second_end) x.example_edges;
      weights = map (λ e. e.edge_weight) x.example_edges;
      owners = map (λ i. i.pair_vertex_law) x.pairs;
      others = map (λ i. i.pair_group_law) x.pairs;
    }

unfoldable pub plan_examples : List PlanExample
plan_examples =
    -- P1
    example (0 ∷ []) [] (finished 0 0 0 0 0 0 [] []) []
    -- P2
    ∷ example (1 ∷ 1 ∷ []) (edge 0 1 5 ∷ []) (finished 2 5 10 1 10 10 (2 ∷ []) (dual 5 (0 ∷ []) ∷ dual 5 (1 ∷ []) ∷ [])) []
    -- P3
    ∷ example
    (1 ∷ 0 ∷ 1 ∷ [])
    (edge 0 1 3 ∷ edge 1 2 4 ∷ [])
    (finished 2 7 14 2 14 14 (2 ∷ 2 ∷ []) (dual 6 (0 ∷ []) ∷ dual 7 (2 ∷ []) ∷ dual 1 (0 ∷ 1 ∷ []) ∷ []))
    []
    -- P4: both sides of the rule are 6
    ∷ example
    (1 ∷ 1 ∷ 1 ∷ [])
    (edge 0 1 1 ∷ edge 1 2 1 ∷ edge 0 2 1 ∷ [])
    (finished 3 2 3 2 6 6 (2 ∷ 2 ∷ 0 ∷ []) (dual 1 (0 ∷ []) ∷ dual 1 (1 ∷ []) ∷ dual 1 (2 ∷ []) ∷ []))
    []
    -- P5
    ∷ example
    (1 ∷ 1 ∷ 0 ∷ 0 ∷ [])
    (edge 0 1 3 ∷ edge 0 2 1 ∷ edge 0 3 1 ∷ [])
    (finished 2 3 6 3 6 6 (2 ∷ 1 ∷ 1 ∷ []) (dual 2 (0 ∷ []) ∷ dual 3 (1 ∷ []) ∷ dual 1 (0 ∷ 2 ∷ 3 ∷ []) ∷ []))
    []
    -- P6
    ∷ example
    (1 ∷ 1 ∷ [])
    (edge 0 1 5 ∷ edge 0 1 5 ∷ [])
    (finished 2 5 10 1 10 10 (2 ∷ 0 ∷ []) (dual 5 (0 ∷ []) ∷ dual 5 (1 ∷ []) ∷ []))
    []
    -- P7
    ∷ example (1 ∷ 2 ∷ []) (edge 0 1 4 ∷ []) (finished 0 0 0 0 0 0 (0 ∷ []) []) []
    -- P8
    ∷ example (1 ∷ 1 ∷ []) (edge 0 1 0 ∷ []) (finished 2 0 0 1 0 0 (2 ∷ []) []) []
    -- P9: the spokes cost 9
    ∷ example
    (0 ∷ 1 ∷ 1 ∷ 1 ∷ [])
    (edge 0 1 3 ∷ edge 0 2 3 ∷ edge 0 3 3 ∷ edge 1 2 5 ∷ edge 1 3 5 ∷ edge 2 3 5 ∷ [])
    (finished 3 10 15 2 30 30 (0 ∷ 0 ∷ 0 ∷ 2 ∷ 2 ∷ 0 ∷ []) (dual 5 (1 ∷ []) ∷ dual 5 (2 ∷ []) ∷ dual 5 (3 ∷ []) ∷ []))
    (joining (0 ∷ 1 ∷ 2 ∷ []) 9 ∷ [])
    -- P10
    ∷ example
    (1 ∷ 2 ∷ 1 ∷ 2 ∷ [])
    (edge 0 1 4 ∷ edge 1 2 2 ∷ edge 2 3 4 ∷ [])
    (finished
    4
    10
    14
    3
    40
    42
    (2 ∷ 2 ∷ 2 ∷ [])
    (dual 4 (0 ∷ []) ∷ dual 2 (1 ∷ []) ∷ dual 2 (2 ∷ []) ∷ dual 4 (3 ∷ []) ∷ dual 2 (1 ∷ 2 ∷ []) ∷ []))
    []
    -- P11
    ∷ example
    (1 ∷ 1 ∷ 2 ∷ 2 ∷ [])
    (edge 0 1 1 ∷ edge 0 2 3 ∷ edge 1 3 3 ∷ [])
    (finished
    4
    7
    12
    3
    28
    36
    (2 ∷ 2 ∷ 2 ∷ [])
    (dual 1 (0 ∷ []) ∷ dual 1 (1 ∷ []) ∷ dual 5 (2 ∷ []) ∷ dual 5 (3 ∷ []) ∷ []))
    []
    -- P12
    ∷ example (1 ∷ 1 ∷ []) [] (refusal 8 1) []
    -- No. 2: the lists {0}, {0, 1} and {1, 2} become one; after round 1 {0, 1} and {2} part the third
    ∷ example_with
    (1 ∷ 2 ∷ 3 ∷ [])
    (pair 0 2 ∷ pair 1 3 ∷ [])
    (edge 0 1 2 ∷ edge 1 2 4 ∷ [])
    (finished 3 6 10 2 18 20 (2 ∷ 2 ∷ []) (dual 2 (0 ∷ []) ∷ dual 2 (1 ∷ []) ∷ dual 4 (2 ∷ []) ∷ dual 2 (0 ∷ 1 ∷ []) ∷ []))
    []
    -- No. 2: the lists 2 and 5 share junction 1; list 2 is joined, list 5 is not
    ∷ example_with (2 ∷ 2 ∷ 5 ∷ []) (pair 1 5 ∷ []) (edge 0 1 1 ∷ []) (refusal 8 5) []
    ∷ []

-- ---- a call

-- What the two buffers hold before a call: as many bytes as it needs, each with a value that is no mark.
unfoldable pub lent_marks : Survey → List ℕ
lent_marks s = replicate (edge_count s) 7

unfoldable pub lent_records : Survey → List ℕ
lent_records s = replicate (record_bytes * duals_for (vertex_count s)) 7

-- What a call answers, the two sides of the rule by it, and all that the two buffers hold after it; then what holds of sets of tracks.
pub record Call : Type 0 where
  pub counts : Outcome PlanCounts
  pub rule : List ℕ
  pub marks : List ℕ
  pub records : List ℕ
  pub sets : List SetFigures

-- The two sides of refusal 15's rule.
unfoldable pub rule_sides : Outcome PlanCounts → List ℕ
rule_sides (refusal number place) = []
rule_sides (answer c) = c.terminals * c.cost ∷ (c.terminals - 1) * c.bound ∷ []

unfoldable pub among : List ℕ → ℕ → Bool
among [] e = false
among (f ∷ l) e = eqb e f || among l e

unfoldable pub set_figures : Survey → List ℕ → SetFigures
set_figures s edges =
    record { set_edges = edges; joins = joined (problem_of s) (among edges); set_cost = cost (problem_of s) (among edges) }

-- By the definitions of the contract.
unfoldable pub call_of : Survey → List (List ℕ) → Call
call_of s sets =
    let marks = lent_marks s in
    let records = lent_records s in
    let counts = counting s (length marks) (length records) in
    record {
      counts = counts;
      rule = rule_sides counts;
      marks = marks_after s marks records;
      records = records_after s marks records;
      sets = map (set_figures s) sets;
    }

-- The bytes of a moat's record as document 01 lays them out, for an amount below 256 and junctions below 8: the amount, then 0 to the eighth byte; the byte
-- with bit v for each member v, then 0 to the last.
unfoldable pub bits_of : List ℕ → ℕ
bits_of [] = 0
bits_of (v ∷ l) = 2 ^ v + bits_of l

unfoldable pub dual_bytes : DualFigures → List ℕ
dual_bytes d = (d.value ∷ replicate (value_bytes - 1) 0) ++ (bits_of d.members ∷ replicate (member_bytes - 1) 0)

unfoldable pub duals_bytes : List DualFigures → List ℕ
duals_bytes [] = []
duals_bytes (d ∷ ds) = dual_bytes d ++ duals_bytes ds

-- By the entry: a finished plan is written over what was lent, and a refusal writes nothing.
unfoldable pub expected_call : Survey → Outcome PlanFigures → List SetFigures → Call
expected_call s (refusal number place) sets =
    record {
      counts = refusal number place;
      rule = [];
      marks = lent_marks s;
      records = lent_records s;
      sets = sets;
    }
expected_call s (answer f) sets =
    record {
      counts = answer
          (record { terminals = f.terminals; cost = f.cost; bound = f.bound; rounds = f.rounds; duals = length f.duals });
      rule = f.times_cost ∷ f.times_bound ∷ [];
      marks = written Fine f.marks (lent_marks s);
      records = written Fine (duals_bytes f.duals ++ drop (record_bytes * length f.duals) (lent_records s)) (lent_records s);
      sets = sets;
    }

-- Each call does what its entry says.
pub plan_examples_hold :
    map (λ x. call_of (example_survey x) (map (λ y. y.set_edges) x.sets)) plan_examples
    ≡ map (λ x. expected_call (example_survey x) x.expected x.sets) plan_examples
unfolding counted sum_below count_below any_below all_below those_below tabulate lookup memo without merged components refuse_if ◌before◌ lowest_below outcome written
    byte_of bytes_of low_bytes record_of
    all_usable joined cost separates terminal terminals start active numbers load slack delay_of active_ends delay_for delay better winner_below winner pick advance state_at grown grown_duals
    needed picked kept mark_of mark dual_bound vertex_count edge_count is_paired in_list same_list member same_group problem_of group_joined components_of edge_refusal is_rising pair_refusal pairs_refusal survey_refusal
    group_refusal records_of records_over plan_of plan_refusal plan_counts_of counting marks_after records_after
    lent_marks lent_records rule_sides among set_figures call_of bits_of dual_bytes duals_bytes expected_call example_survey plan_examples
plan_examples_hold = refl
