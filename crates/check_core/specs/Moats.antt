-- What the checker asks of moats: the refusals 11 to 13 together, and the loads that 13 is about.
use Rattle.std.specs.Prelude.{ℕ, ◌*◌, ◌/◌, ◌≤◌, ◌<◌, cond, not, List, length, ltb, leb}
use Rattle.std.specs.Bool.{xor}
use Rattle.base_limits.specs.Limits.{max_value, record_bytes, max_duals}
use Rattle.base_limits.specs.Verdict.{refuse_if, ◌before◌, lowest_below}
use Rattle.base_limits.specs.declared.Verdict.{Verdict}
use Rattle.base_limits.specs.declared.Verdict.TheVariants.{Fine}
use Rattle.format_record.specs.Record.{value_in, record_at}
use Rattle.theory_steiner.specs.Problem.{separates}
use Rattle.theory_steiner.specs.Dual.{weigh, dual_load}
use Rattle.survey_core.specs.Survey.{Survey, edge_count, problem_of}
use Rattle.check_rule.specs.Check.{dual_at, duals_in, dual_refusal}

-- The dual load of an edge between u and v.
unfoldable pub load_between : List ℕ → (u v : ℕ) → ℕ
load_between records u v = weigh (duals_in records) (λ S. xor (S u) (S v))

-- What 9 and 11 leave of the records: few, and each of a value within the limit.
pub record DualsFit (records : List ℕ) : Type 0 where
  pub few : length records / record_bytes ≤ max_duals
  pub small : (i : ℕ) → i < length records / record_bytes → value_in (record_at records i) ≤ max_value

-- 11, 12 and 13, each over all its items.
unfoldable pub duals_refusal : Survey → (records : List ℕ) → Verdict
duals_refusal s records =
    lowest_below (length records / record_bytes) (λ i. dual_refusal s (dual_at records i) i)
    before lowest_below (length records / record_bytes) (λ i. refuse_if (not (separates (problem_of s) (dual_at records i).holds)) 12 i)
    before lowest_below (edge_count s) (λ e. refuse_if (ltb (2 * (problem_of s).weight e) (dual_load (problem_of s) (duals_in records) e)) 13 e)

-- The same of no more moats than a plan has; too many are refused by 9.
unfoldable pub few_duals_refusal : Survey → (records : List ℕ) → Verdict
few_duals_refusal s records = cond (leb (length records / record_bytes) max_duals) (duals_refusal s records) Fine
