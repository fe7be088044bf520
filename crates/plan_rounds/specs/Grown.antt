-- What growing answers (document 01, 'How moats grow'; 001, Algorithm 22.3), in arrays.
use Rattle.std.specs.Prelude.{◌≡◌, ℕ, List, nat_lt}
use Rattle.base_finite.specs.Below.{counted, tabulate}
use Rattle.base_limits.specs.Limits.{max_vertices, max_edges, max_duals}
use Rattle.theory_steiner.specs.Problem.{Problem}
use Rattle.theory_steiner.specs.Growth.{state_at}
use Rattle.theory_steiner.specs.Pruning.{dual_bound}
use Rattle.plan_rounds.specs.Represents.{pick_at}

-- A growth: how many rounds there were, the sum of all duals, the values of the component numbers, 1 for each picked edge, and the edges in the order of the rounds.
pub record Growth : Type 0 where
  pub rounds : ℕ
  pub bound : ℕ
  pub values : List ℕ
  pub picked : List ℕ
  pub order : List ℕ

abbrev pub growth_from : (rounds bound : ℕ) → (values picked order : List ℕ) → Growth
growth_from rounds bound values picked order =
    record { rounds = rounds; bound = bound; values = values; picked = picked; order = order }

-- The growth that k steps of the definition make; steps without a winner change nothing.
pub record GrownAfter (p : Problem) (k : ℕ) (g : Growth) : Type 0 where
  pub rounds_are : g.rounds ≡ (state_at p k).rounds
  pub bound_is : g.bound ≡ dual_bound p (state_at p k)
  pub values_are : g.values ≡ tabulate max_duals (state_at p k).value
  pub picked_are : g.picked ≡ tabulate max_edges (λ e. counted ((state_at p k).picked e) 1)
  pub order_is : g.order ≡ tabulate max_vertices (λ i. counted (nat_lt i k) (pick_at p i))
