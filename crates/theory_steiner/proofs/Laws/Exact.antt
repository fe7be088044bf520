-- With two terminals the accuracy rule leaves no room (document 02, No. 14: 'Where near best is best'): k / (2k - 2)
-- is 1, so the bound is exactly twice the cost of the kept edges, and no set that joins costs less. That the kept
-- edges are a route between the two is a law of `theory_route` (`two_cheapest_route`).
use Rattle.std.specs.Prelude.{ℕ, ◌*◌, ◌-◌, ◌≤◌, ◌<◌, ◌≡◌, Bool}
use Rattle.std.proofs.Common.{arith, sym, subst}
use Rattle.theory_steiner.specs.Problem.{Problem, Sound, EdgeSet, Joins, Cheapest, all_usable, cost, terminals}
use Rattle.theory_steiner.specs.Growth.{grown}
use Rattle.theory_steiner.specs.Dual.{duals_of}
use Rattle.theory_steiner.specs.Pruning.{kept, dual_bound}
use Rattle.theory_steiner.proofs.Laws.Finish.{kept_joins, kept_edges}
use Rattle.theory_steiner.proofs.Laws.Dual.{total_duals}
use Rattle.theory_steiner.proofs.Laws.WeakDuality.{weak_duality}
use Rattle.theory_steiner.proofs.Laws.Accuracy.{kept_accurate, grown_separating, grown_feasible}

module _ (p : Problem) (ok : Sound p) (some : 0 < p.vertices) (joinable : Joins p (all_usable p)) where
  -- The bound is at most twice the cost of any set that joins.
  pub bound_le_twice : (F : ℕ → Bool) → EdgeSet p F → Joins p F → dual_bound p (grown p) ≤ 2 * cost p F
  bound_le_twice F set joins =
      rw (sym (total_duals p (grown p)))
      (weak_duality p F set joins (duals_of p (grown p)) (grown_separating p ok some joinable) (grown_feasible p ok some joinable))

  accurate_two : terminals p ≡ 2 → 2 * cost p (kept p) ≤ (2 - 1) * dual_bound p (grown p)
  accurate_two two = subst (λ k. k * cost p (kept p) ≤ (k - 1) * dual_bound p (grown p)) two (kept_accurate p ok some joinable)

  module _ (two : terminals p ≡ 2) where
    pub two_bound : dual_bound p (grown p) ≡ 2 * cost p (kept p)
    two_bound = omega (arith, accurate_two two, bound_le_twice (kept p) (kept_edges p ok some joinable) (kept_joins p ok some joinable))

    pub two_cheapest : Cheapest p (kept p)
    two_cheapest F set joins = omega (arith, accurate_two two, bound_le_twice F set joins)
