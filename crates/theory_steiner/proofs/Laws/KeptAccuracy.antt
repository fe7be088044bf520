-- The accuracy rule of the kept edges (source 001, Theorem 22.9, with source 003's factor): Accuracy.antt has it of any duals.
use Rattle.std.specs.Prelude.{ℕ, ◌*◌, ◌-◌, ◌≤◌, ◌<◌, Bool}
use Rattle.theory_steiner.specs.Problem.{Problem, Sound, EdgeSet, Joins, cost, terminals, all_usable}
use Rattle.theory_steiner.specs.Growth.{grown}
use Rattle.theory_steiner.specs.Dual.{duals_of}
use Rattle.theory_steiner.specs.Pruning.{kept}
use Rattle.theory_steiner.proofs.Laws.Dual.{total_duals}
use Rattle.theory_steiner.proofs.Laws.Accuracy.{within_factor, kept_accurate, grown_separating, grown_feasible}

module _ (p : Problem) (ok : Sound p) (some : 0 < p.vertices) (joinable : Joins p (all_usable p)) where
  pub kept_within_factor : (F : ℕ → Bool) → EdgeSet p F → Joins p F → terminals p * cost p (kept p) ≤ (2 * terminals p - 2) * cost p F
  kept_within_factor F set joins =
      within_factor p F set joins (duals_of p (grown p)) (grown_separating p ok some joinable) (grown_feasible p ok some joinable) (terminals p) (cost p (kept p))
      (rw (total_duals p (grown p)) (kept_accurate p ok some joinable))
