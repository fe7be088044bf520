-- A cheapest route (document 02, No. 14: what the plan is with two sites).
use Rattle.std.specs.Prelude.{ℕ, ◌+◌, ◌≤◌, ◌<◌, ◌≡◌, ◌⊎◌, Bool, true, List, [], ◌∷◌}
use Rattle.theory_steiner.specs.Problem.{Problem, all_usable, cost, terminal}
use Rattle.theory_route.specs.Route.{occurs, IsRoute}

-- The price of a route: the weights of its edges, added up.
unfoldable pub route_cost : Problem → List ℕ → ℕ
route_cost p [] = 0
route_cost p (e ∷ es) = p.weight e + route_cost p es

-- The edges of F are those of one path from u to w that visits no vertex twice, and no more; F costs what that path
-- costs, and no such path by usable edges costs less.
pub record CheapestRoute (p : Problem) (F : ℕ → Bool) (u w : ℕ) : Type 0 where
  pub edges : List ℕ
  pub path : IsRoute p.first p.second F u w edges
  pub no_more : (e : ℕ) → F e ≡ occurs edges e
  pub price : cost p F ≡ route_cost p edges
  pub cheapest : (es : List ℕ) → IsRoute p.first p.second (all_usable p) u w es → cost p F ≤ route_cost p es

-- The two terminals of a problem that has no others.
pub record TwoTerminals (p : Problem) : Type 0 where
  pub low : ℕ
  pub high : ℕ
  pub rising : low < high
  pub high_below : high < p.vertices
  pub low_terminal : terminal p low ≡ true
  pub high_terminal : terminal p high ≡ true
  pub no_other : (v : ℕ) → v < p.vertices → terminal p v ≡ true → (v ≡ low) ⊎ (v ≡ high)
