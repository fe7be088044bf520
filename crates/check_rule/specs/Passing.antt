-- What it is to pass the checker, refusal by refusal, in terms of the survey (document 01, 'Refused surveys and plans', 9 to 15; law `passes_iff`).
use Rattle.std.specs.Prelude.{ℕ, ◌*◌, ◌-◌, ◌/◌, ◌%◌, ◌≤◌, ◌<◌, ◌≡◌, true, List, length, get_or}
use Rattle.base_limits.specs.Limits.{max_value, member_bytes, record_bytes, max_duals}
use Rattle.theory_steiner.specs.Problem.{Joins, separates, terminals, cost}
use Rattle.theory_steiner.specs.Dual.{Dual, total, dual_load}
use Rattle.survey_core.specs.Survey.{Survey, vertex_count, edge_count, problem_of}
use Rattle.survey_core.specs.Sound.{SurveySound}
use Rattle.check_rule.specs.Check.{dual_at, duals_in, kept_by}

-- 11 of one dual: a value from 1 to the limit, and members that are vertices.
pub record DualSound (s : Survey) (d : Dual) : Type 0 where
  pub positive : 0 < d.value
  pub small : d.value ≤ max_value
  pub vertices_only : (v : ℕ) → v < 8 * member_bytes → d.holds v ≡ true → v < vertex_count s

-- All that passing says.
pub record Passing (s : Survey) (marks records : List ℕ) : Type 0 where
  pub survey : SurveySound s
  pub marks_long : length marks ≡ edge_count s
  pub records_whole : length records % record_bytes ≡ 0
  pub records_few : length records / record_bytes ≤ max_duals
  pub marks_known : (e : ℕ) → e < edge_count s → get_or marks e 0 ≤ 2
  pub duals_sound : (i : ℕ) → i < length records / record_bytes → DualSound s (dual_at records i)
  pub duals_separate : (i : ℕ) → i < length records / record_bytes → separates (problem_of s) (dual_at records i).holds ≡ true
  pub not_overtight : (e : ℕ) → e < edge_count s → dual_load (problem_of s) (duals_in records) e ≤ 2 * (problem_of s).weight e
  pub kept_joins : Joins (problem_of s) (kept_by marks)
  pub none_free : terminals (problem_of s) ≡ 0 → cost (problem_of s) (kept_by marks) ≡ 0
  pub rule : terminals (problem_of s) * cost (problem_of s) (kept_by marks) ≤ (terminals (problem_of s) - 1) * total (duals_in records)
