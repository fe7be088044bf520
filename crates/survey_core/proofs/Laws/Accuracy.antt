-- What the accuracy rule says in the numbers that a buyer is told (docs/GUARANTEE.md): by how much a set of tracks that joins every group can be cheaper, for each number of sites;
-- and that the number of sites is never 1. And what moats that separate and overload no track are worth.
use Rattle.std.specs.Prelude.{ℕ, suc, ◌*◌, ◌-◌, ◌≤◌, ◌<◌, ◌≡◌, refl, Bool, List}
use Rattle.std.proofs.Common.{arith, mul-le-mul_right}
use Rattle.std.proofs.Math.Nat.{le_of_mul-le-mul_left}
use Rattle.theory_steiner.specs.Problem.{EdgeSet, Joins, cost, terminals}
use Rattle.theory_steiner.specs.Dual.{Dual, EachDual, Separating, dual_load, total}
use Rattle.theory_steiner.proofs.Laws.Terminals.{terminals_not_one}
use Rattle.theory_steiner.proofs.Laws.WeakDuality.{weak_duality}
use Rattle.survey_core.specs.Survey.{Survey, edge_count, problem_of}
use Rattle.survey_core.specs.Accuracy.{Accurate, DualBound}
use Rattle.survey_core.proofs.Laws.Refusal.{same_group_symmetric}

-- Document 01: k is never 1.
pub sites_not_one : (s : Survey) → terminals (problem_of s) ≡ 1 → ⊥
unfolding problem_of
sites_not_one s = terminals_not_one (problem_of s) (same_group_symmetric s)

-- With no site a plan costs nothing.
pub no_site_free : (s : Survey) (c : ℕ) → Accurate s 0 c → c ≡ 0
no_site_free s c a = a.free refl

-- Moats that each part two members of a group, and together load no track beyond twice its price: no joining set costs less than half of what they hold.
pub duals_bound : (s : Survey) (ds : List Dual) → EachDual (Separating (problem_of s)) ds →
    ((e : ℕ) → e < edge_count s → dual_load (problem_of s) ds e ≤ 2 * (problem_of s).weight e) → DualBound s (total ds)
unfolding problem_of edge_count
duals_bound s ds separating fits = record { halved = λ F set joins. weak_duality (problem_of s) F set joins ds separating (λ e b u. fits e b) }

module _ (s : Survey) (c : ℕ) (F : ℕ → Bool) (edges : EdgeSet (problem_of s) F) (joins : Joins (problem_of s) F) where
  -- With two sites no set is cheaper.
  pub two_sites_best : Accurate s 2 c → c ≤ cost (problem_of s) F
  two_sites_best a = let h : 2 * c ≤ 2 * cost (problem_of s) F = a.factor F edges joins in omega arith

  -- With three sites none is cheaper than three quarters.
  pub three_sites_quarters : Accurate s 3 c → 3 * c ≤ 4 * cost (problem_of s) F
  three_sites_quarters a = let h : 3 * c ≤ 4 * cost (problem_of s) F = a.factor F edges joins in omega arith

  -- With any number none is cheaper than half.
  pub half_at_least : (k : ℕ) → Accurate s (suc k) c → c ≤ 2 * cost (problem_of s) F
  half_at_least k a =
      let h : suc k * c ≤ (2 * suc k - 2) * cost (problem_of s) F = a.factor F edges joins in
      let d : 2 * suc k - 2 ≤ 2 * suc k = omega arith in
      let e : (2 * suc k - 2) * cost (problem_of s) F ≤ 2 * suc k * cost (problem_of s) F = mul-le-mul_right (cost (problem_of s) F) d in
      let x : suc k * c ≤ suc k * (2 * cost (problem_of s) F) = omega arith in
      le_of_mul-le-mul_left {k = suc k} x (omega arith)
