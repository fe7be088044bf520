-- The checker (document 01, 'What a plan holds' and 'Refused surveys and plans'): any marks, any moat records.
use Rattle.std.specs.Prelude.{ℕ, ◌*◌, ◌-◌, ◌/◌, ◌%◌, Bool, ◌&&◌, ◌||◌, not, List, length, get_or, eqb, ltb, leb}
use Rattle.base_finite.specs.Below.{any_below, tabulate}
use Rattle.base_limits.specs.Limits.{max_value, member_bytes, record_bytes, max_duals}
use Rattle.base_limits.specs.Verdict.{refuse_if, ◌before◌, lowest_below, Outcome, outcome}
use Rattle.base_limits.specs.declared.Verdict.{Verdict}
use Rattle.format_record.specs.Record.{value_in, member_in, record_at}
use Rattle.theory_steiner.specs.Problem.{separates, terminals, cost}
use Rattle.theory_steiner.specs.Dual.{Dual, total, dual_load}
use Rattle.survey_core.specs.Survey.{Survey, vertex_count, edge_count, problem_of}
use Rattle.survey_core.specs.Refusal.{survey_refusal, group_refusal}

-- What the checker answers: k, kept cost and bound.
pub record Checked : Type 0 where
  pub terminals : ℕ
  pub cost : ℕ
  pub bound : ℕ

-- The moat that record i draws.
unfoldable pub dual_at : List ℕ → ℕ → Dual
dual_at records i = let r = record_at records i in record { value = value_in r; holds = member_in r }

-- All of them, in the order of the buffer.
unfoldable pub duals_in : List ℕ → List Dual
duals_in records = tabulate (length records / record_bytes) (dual_at records)

-- The tracks marked 2.
unfoldable pub kept_by : List ℕ → ℕ → Bool
kept_by marks e = eqb (get_or marks e 0) 2

-- 9: lengths that fit no plan.
unfoldable pub shape_refusal : Survey → (marks records : List ℕ) → Verdict
shape_refusal s marks records =
    refuse_if
    (not (eqb (length marks) (edge_count s)) || not (eqb (length records % record_bytes) 0) || ltb max_duals (length records / record_bytes))
    9
    0

-- 11: a value of 0 or too large, or a member that is no vertex.
unfoldable pub dual_refusal : Survey → Dual → ℕ → Verdict
dual_refusal s d i =
    refuse_if
    (eqb d.value 0 || ltb max_value d.value || any_below (8 * member_bytes) (λ v. leb (vertex_count s) v && d.holds v))
    11
    i

-- 15: the accuracy rule's premise fails.
unfoldable pub rule_refusal : Checked → Verdict
rule_refusal c =
    refuse_if (eqb c.terminals 0 && not (eqb c.cost 0) || ltb ((c.terminals - 1) * c.bound) (c.terminals * c.cost)) 15 0

unfoldable pub checked_of : Survey → (marks records : List ℕ) → Checked
checked_of s marks records =
    record {
      terminals = terminals (problem_of s);
      cost = cost (problem_of s) (kept_by marks);
      bound = total (duals_in records);
    }

-- The survey first, then the plan: the refusals in the order of their numbers, each over all its items.
unfoldable pub check_refusal : Survey → (marks records : List ℕ) → Verdict
check_refusal s marks records =
    let p = problem_of s in
    let duals = length records / record_bytes in
    survey_refusal s
    before shape_refusal s marks records
    before lowest_below (edge_count s) (λ e. refuse_if (ltb 2 (get_or marks e 0)) 10 e)
    before lowest_below duals (λ i. dual_refusal s (dual_at records i) i)
    before lowest_below duals (λ i. refuse_if (not (separates p (dual_at records i).holds)) 12 i)
    before lowest_below (edge_count s) (λ e. refuse_if (ltb (2 * p.weight e) (dual_load p (duals_in records) e)) 13 e)
    before group_refusal s 14 (kept_by marks)
    before rule_refusal (checked_of s marks records)

unfoldable pub checking : Survey → (marks records : List ℕ) → Outcome Checked
checking s marks records = outcome (check_refusal s marks records) (checked_of s marks records)
