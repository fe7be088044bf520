-- What stands in the lent buffers after a call that answered 0, in the words of the demands (document 01, demand 3;
-- document 02, No. 1, 3 and 7). Laws/Calls and Laws/Handset prove it of what the exported contracts say of the buffers.
use Rattle.std.specs.Prelude.{ℕ, ◌*◌, ◌≤◌, ◌≡◌, List, ◌++◌, length, get_or, take, drop}
use Rattle.base_limits.specs.Limits.{record_bytes}
use Rattle.format_record.specs.Bits.{number_of}
use Rattle.survey_core.specs.Survey.{Survey, edge_count}
use Rattle.survey_core.specs.Accuracy.{Accurate, DualBound}
use Rattle.check_rule.specs.Check.{Checked}
use Rattle.check_rule.specs.Passing.{Passing}
use Rattle.plan_rule.specs.Plan.{PlanCounts}
use Rattle.plan_rule.specs.Promise.{FinishedPlan}
use Rattle.plan_rule.specs.Dropping.{DropCounts}
use Rattle.plan_rule.specs.DropPromise.{DroppedMarks}
use Rattle.why_rule.specs.Why.{WhyCounts}
use Rattle.api_code.specs.Code.{code_of}
use Rattle.api_plan.specs.Call.{plan_marks, plan_counts}
use Rattle.api_plan.specs.GrowCall.{grow_marks, grow_counts, drop_call, drop_marks, dropped_counts}
use Rattle.api_check.specs.Call.{check_figures, check_call, check_counts}
use Rattle.api_handset.specs.Words.{figure_bytes}

-- ---- the numbers of lent counts, by their places

-- k, cost, bound, rounds and the number of moats
abbrev pub planned_in : List ℕ → PlanCounts
planned_in counts =
    record { terminals = get_or counts 0 0; cost = get_or counts 1 0; bound = get_or counts 2 0; rounds = get_or counts 3 0; duals = get_or counts 4 0 }

-- k, cost and bound
abbrev pub checked_in : List ℕ → Checked
checked_in counts = record { terminals = get_or counts 0 0; cost = get_or counts 1 0; bound = get_or counts 2 0 }

-- k and cost
abbrev pub dropped_in : List ℕ → DropCounts
dropped_in counts = record { terminals = get_or counts 0 0; cost = get_or counts 1 0 }

-- kind, list, smaller, larger, entries of the route, round
abbrev pub asked_in : List ℕ → WhyCounts
asked_in counts =
    record {
      kind = get_or counts 0 0;
      group = get_or counts 1 0;
      low = get_or counts 2 0;
      high = get_or counts 3 0;
      entries = get_or counts 4 0;
      round = get_or counts 5 0;
    }

-- ---- the same in a handset's result, eight bytes each, lowest first

abbrev pub figure_in : List ℕ → ℕ → ℕ
figure_in result i = number_of (take figure_bytes (drop (figure_bytes * i) result))

abbrev pub planned_spelled : List ℕ → PlanCounts
planned_spelled result =
    record { terminals = figure_in result 0; cost = figure_in result 1; bound = figure_in result 2; rounds = figure_in result 3; duals = figure_in result 4 }

abbrev pub checked_spelled : List ℕ → Checked
checked_spelled result = record { terminals = figure_in result 0; cost = figure_in result 1; bound = figure_in result 2 }

-- ---- planning

-- A plan that stands in three buffers, of which two held these marks and records before.
pub record PlanStands (s : Survey) (before_marks before_records marks records counts : List ℕ) : Type 0 where
  -- all that planning promises of a finished plan
  pub finished : FinishedPlan s before_marks before_records (planned_in counts)
  -- demand 3
  pub accurate : Accurate s (get_or counts 0 0) (get_or counts 1 0)
  pub bounded : DualBound s (get_or counts 2 0)
  -- the marks cut to m and the records to as many as there are moats pass the checking call, with the same k, cost and
  -- bound
  pub passes : (lent : List ℕ) → check_figures ≤ length lent → code_of (check_call s (take (edge_count s) marks) (take (record_bytes * get_or counts 4 0) records) lent) ≡ 0
  pub same : (lent : List ℕ) → check_figures ≤ length lent
      → checked_in (check_counts s (take (edge_count s) marks) (take (record_bytes * get_or counts 4 0) records) lent) ≡ checked_in counts

-- ---- checking

-- Marks and records that passed, with the counts that were stored.
pub record CheckStands (s : Survey) (marks records counts : List ℕ) : Type 0 where
  pub passing : Passing s marks records
  pub accurate : Accurate s (get_or counts 0 0) (get_or counts 1 0)
  pub bounded : DualBound s (get_or counts 2 0)

-- ---- dropping

-- Marks that dropping has left of others, with the counts that were stored.
pub record DropStands (s : Survey) (before_marks marks counts : List ℕ) : Type 0 where
  -- all that dropping promises
  pub dropped : DroppedMarks s before_marks marks (dropped_in counts)
  -- accuracy, where the checking call passes them with some records, whatever these are
  pub accurate : (records lent : List ℕ) → code_of (check_call s marks records lent) ≡ 0 → Accurate s (get_or counts 0 0) (get_or counts 1 0)

-- ---- growing, then dropping

-- What growing left in its buffers, cut to m marks and lent to dropping with other counts, beside what planning leaves
-- in the same buffers.
abbrev pub grown_picks : Survey → (marks records counts : List ℕ) → List ℕ
grown_picks s marks records counts = take (edge_count s) (grow_marks s marks records counts)

-- Dropping's k and cost, with growing's bound, rounds and number of moats.
abbrev pub both_counts : DropCounts → PlanCounts → PlanCounts
both_counts d g = record { terminals = d.terminals; cost = d.cost; bound = g.bound; rounds = g.rounds; duals = g.duals }

pub record StagesStand (s : Survey) (marks records counts lent : List ℕ) : Type 0 where
  -- dropping refuses nothing that growing leaves
  pub drops : code_of (drop_call s (grown_picks s marks records counts) lent) ≡ 0
  -- dropping's marks, in front of what growing left behind them, are planning's
  pub marks_are :
      plan_marks s marks records counts
      ≡ drop_marks s (grown_picks s marks records counts) lent ++ drop (edge_count s) (grow_marks s marks records counts)
  pub counts_are :
      planned_in (plan_counts s marks records counts)
      ≡ both_counts (dropped_in (dropped_counts s (grown_picks s marks records counts) lent)) (planned_in (grow_counts s marks records counts))
  -- growing has the same k, and keeps nothing yet
  pub grown_sites : get_or (grow_counts s marks records counts) 0 0 ≡ get_or (plan_counts s marks records counts) 0 0
  pub grown_cost : get_or (grow_counts s marks records counts) 1 0 ≡ 0
