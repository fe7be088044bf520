-- Planning (document 01, 'What a plan holds' and 'Refused surveys and plans').
use Rattle.std.specs.Prelude.{ℕ, ◌*◌, ◌||◌, List, ◌++◌, length, drop, ltb}
use Rattle.base_finite.specs.Below.{tabulate}
use Rattle.base_limits.specs.Limits.{record_bytes, duals_for}
use Rattle.base_limits.specs.Verdict.{refuse_if, ◌before◌, Outcome, outcome, written}
use Rattle.base_limits.specs.declared.Verdict.{Verdict}
use Rattle.theory_steiner.specs.Problem.{Problem, all_usable, terminals, cost}
use Rattle.theory_steiner.specs.Growth.{grown}
use Rattle.theory_steiner.specs.Dual.{Dual}
use Rattle.theory_steiner.specs.Dual.{duals_of as grown_duals}
use Rattle.theory_steiner.specs.Pruning.{kept, mark, dual_bound}
use Rattle.plan_draw.specs.Drawing.{records_over}
use Rattle.survey_core.specs.Survey.{Survey, vertex_count, edge_count, problem_of}
use Rattle.survey_core.specs.Refusal.{survey_refusal, group_refusal}

-- What planning answers and draws. Document 01: k, cost, bound, rounds, the marks and the moats.
pub record Plan : Type 0 where
  pub terminals : ℕ
  pub cost : ℕ
  pub bound : ℕ
  pub rounds : ℕ
  pub marks : List ℕ
  pub duals : List Dual

unfoldable pub plan_of : Problem → Plan
plan_of p =
    let s = grown p in
    record {
      terminals = terminals p;
      cost = cost p (kept p);
      bound = dual_bound p s;
      rounds = s.rounds;
      marks = tabulate p.edges (mark p);
      duals = grown_duals p s;
    }

-- 1, 2, 3, then 4, 5, 6 by track, then 18 by pair, then 7, then 8. The lengths are those of the buffers lent for marks and records.
unfoldable pub plan_refusal : Survey → (marks_length records_length : ℕ) → Verdict
plan_refusal s marks_length records_length =
    survey_refusal s
    before refuse_if (ltb marks_length (edge_count s) || ltb records_length (record_bytes * duals_for (vertex_count s))) 7 0
    before group_refusal s 8 (all_usable (problem_of s))

unfoldable pub planning : Survey → (marks_length records_length : ℕ) → Outcome Plan
planning s marks_length records_length = outcome (plan_refusal s marks_length records_length) (plan_of (problem_of s))

-- What the call answers in numbers: k, cost, bound, rounds and the number of moats.
pub record PlanCounts : Type 0 where
  pub terminals : ℕ
  pub cost : ℕ
  pub bound : ℕ
  pub rounds : ℕ
  pub duals : ℕ

unfoldable pub plan_counts_of : Plan → PlanCounts
plan_counts_of p = record { terminals = p.terminals; cost = p.cost; bound = p.bound; rounds = p.rounds; duals = length p.duals }

unfoldable pub counting : Survey → (marks_length records_length : ℕ) → Outcome PlanCounts
counting s marks_length records_length = outcome (plan_refusal s marks_length records_length) (plan_counts_of (plan_of (problem_of s)))

-- What the two lent buffers hold at the end: bytes after the last mark and the last record keep their values.
unfoldable pub marks_after : Survey → (marks records : List ℕ) → List ℕ
marks_after s marks records =
    written (plan_refusal s (length marks) (length records)) ((plan_of (problem_of s)).marks ++ drop (edge_count s) marks) marks

unfoldable pub records_after : Survey → (marks records : List ℕ) → List ℕ
records_after s marks records =
    written (plan_refusal s (length marks) (length records)) (records_over (plan_of (problem_of s)).duals records) records
