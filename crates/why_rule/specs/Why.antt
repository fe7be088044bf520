-- What the call answers and writes (document 02, No. 3): 1 to 6, 18, then 7, 8 and 19; the reason in numbers; its route in the lent buffer.
use Rattle.std.specs.Prelude.{ℕ, ◌-◌, List, [], ◌++◌, length, drop, ltb, leb}
use Rattle.base_limits.specs.Verdict.{refuse_if, ◌before◌, Outcome, outcome, written}
use Rattle.base_limits.specs.declared.Verdict.{Verdict}
use Rattle.theory_steiner.specs.Problem.{all_usable}
use Rattle.survey_core.specs.Survey.{Survey, vertex_count, edge_count, problem_of}
use Rattle.survey_core.specs.Refusal.{survey_refusal, group_refusal}
use Rattle.why_rule.specs.Reason.{Reason, needs, spared, passed, reason_of}

unfoldable pub why_refusal : Survey → (route_length e : ℕ) → Verdict
why_refusal s route_length e =
    survey_refusal s
    before refuse_if (ltb route_length (vertex_count s - 1)) 7 0
    before group_refusal s 8 (all_usable (problem_of s))
    before refuse_if (leb (edge_count s) e) 19 e

-- A reason in numbers: its kind is the track's mark, and what the kind does not have is 0.
pub record WhyCounts : Type 0 where
  pub kind : ℕ
  pub group : ℕ
  pub low : ℕ
  pub high : ℕ
  pub entries : ℕ
  pub round : ℕ

unfoldable pub why_counts : Reason → WhyCounts
why_counts (needs group low high route) = record { kind = 2; group = group; low = low; high = high; entries = length route; round = 0 }
why_counts spared = record { kind = 1; group = 0; low = 0; high = 0; entries = 0; round = 0 }
why_counts (passed round) = record { kind = 0; group = 0; low = 0; high = 0; entries = 0; round = round }

unfoldable pub route_in : Reason → List ℕ
route_in (needs group low high route) = route
route_in spared = []
route_in (passed round) = []

unfoldable pub reasoning : Survey → (route_length e : ℕ) → Outcome WhyCounts
reasoning s route_length e = outcome (why_refusal s route_length e) (why_counts (reason_of s e))

-- Entries past the route keep their values; without a route all do.
unfoldable pub route_after : Survey → (e : ℕ) → (route : List ℕ) → List ℕ
route_after s e route =
    let entries = route_in (reason_of s e) in written (why_refusal s (length route) e) (entries ++ drop (length entries) route) route
