-- The counts of a plan that 1 to 11 leave, and their products, fit 64 bits.
use Rattle.std.specs.Prelude.{ℕ, ◌*◌, ◌<◌, ◌≤◌, ◌^◌, true, List, length, get_or}
use Rattle.std.proofs.Common.{arith, mul-le-mul}
use Rattle.base_finite.specs.Below.{counted}
use Rattle.base_finite.specs.Laws.Below.{counted_le, count_le, sum_limit}
use Rattle.base_limits.specs.Limits.{max_vertices, max_weight}
use Rattle.theory_steiner.specs.Problem.{terminal, terminals, cost}
use Rattle.theory_steiner.specs.Dual.{total}
use Rattle.survey_core.specs.Survey.{Survey, vertex_count, edge_count, problem_of}
use Rattle.survey_core.specs.Sound.{SurveySound}
use Rattle.check_rule.specs.Check.{duals_in, kept_by}
use Rattle.check_core.specs.Moats.{DualsFit}
use Rattle.check_core.specs.Laws.Duals.{weigh_limit}
use Rattle.check_core.specs.Stage.{CountsFit}

-- 1 to 11 leave counts whose products fit 64 bits.
pub counts_fit : (s : Survey) (marks records : List ℕ) → SurveySound s → DualsFit records
    → CountsFit (terminals (problem_of s)) (cost (problem_of s) (kept_by marks)) (total (duals_in records))
unfolding terminals cost total problem_of vertex_count edge_count
counts_fit s marks records sound fit =
    record {
      terminals_few = omega (arith, count_le (length s.groups) (terminal (problem_of s)), sound.few);
      cost_small =
          omega (
            arith,
            sum_limit
                (length s.firsts)
                max_weight
                (λ e. counted (kept_by marks e) (get_or s.weights e 0))
                (λ e b. omega (arith, counted_le (kept_by marks e) (get_or s.weights e 0), (sound.edges e b).weight_le)),
            sound.edges_few,
          );
      bound_small = weigh_limit records fit (λ S. true);
    }

-- The product of a count of vertices and of a sum within these limits.
pub product_fits : {a b : ℕ} → a ≤ max_vertices → b < 2 ^ 48 → a * b < 2 ^ 64
product_fits {a} {b} h k =
    let l : b ≤ 2 ^ 48 = omega arith in
    omega (arith, mul-le-mul h l)
