-- The route between two vertices of a forest (document 02, No. 3: the kept route, in walking order).
use Rattle.std.specs.Prelude.{ℕ, zero, suc, ◌≡◌, Bool, true, false, ◌&&◌, ◌||◌, not, cond, List, [], ◌∷◌, eqb}
use Rattle.theory_graph.specs.Path.{Leads, without}
use Rattle.theory_graph.specs.Component.{components}
use Rattle.theory_steiner.specs.Problem.{Problem}
use Rattle.theory_route.specs.First.{first_below}

-- x stands in the list.
unfoldable pub occurs : List ℕ → ℕ → Bool
occurs [] x = false
occurs (y ∷ ys) x = eqb x y || occurs ys x

-- A path from u to w by edges of F that visits no vertex twice: its edges in walking order, and the vertices that it visits.
pub data Route (a b : ℕ → ℕ) (F : ℕ → Bool) : (u w : ℕ) → (edges vertices : List ℕ) → Type 0 where
  arrived : {u : ℕ} → Route a b F u u [] (u ∷ [])
  onward : {u v w : ℕ} {es vs : List ℕ} (e : ℕ) → F e ≡ true → Leads a b e u v → occurs vs u ≡ false → Route a b F v w es vs
      → Route a b F u w (e ∷ es) (u ∷ vs)

-- These edges, in this order, are such a path.
pub record IsRoute (a b : ℕ → ℕ) (F : ℕ → Bool) (u w : ℕ) (edges : List ℕ) : Type 0 where
  pub vertices : List ℕ
  pub route : Route a b F u w edges vertices

-- Vertices with the same label are linked by edges of F.
unfoldable pub are_linked : Problem → (ℕ → Bool) → (u w : ℕ) → Bool
are_linked p F u w = let label = components p.vertices p.first p.second F p.edges in eqb (label u) (label w)

-- u is an end of edge e; the other end.
unfoldable pub is_end : (a b : ℕ → ℕ) → (e u : ℕ) → Bool
is_end a b e u = eqb (a e) u || eqb (b e) u

unfoldable pub far_end : (a b : ℕ → ℕ) → (e u : ℕ) → ℕ
far_end a b e u = cond (eqb (a e) u) (b e) (a e)

-- Edge e is at u, and the others of F do not link u with w.
unfoldable pub leads_on : Problem → (ℕ → Bool) → (w u e : ℕ) → Bool
leads_on p F w u e = F e && (is_end p.first p.second e u && not (are_linked p (without F e) u w))

-- At most so many steps from u towards w: each goes by the edge at hand that alone leads on.
unfoldable pub steps_to : Problem → (ℕ → Bool) → (w steps u : ℕ) → List ℕ
steps_to p F w zero u = []
steps_to p F w (suc k) u = let e = first_below p.edges (leads_on p F w u) in cond (eqb u w) [] (e ∷ steps_to p F w k (far_end p.first p.second e u))

-- The edges of F from u to w in walking order, none where F does not link them. In a forest this is a path without a repeated vertex, and there is
-- no other (laws `route_of_law`, `route_only`).
unfoldable pub route_of : Problem → (ℕ → Bool) → (u w : ℕ) → List ℕ
route_of p F u w = cond (are_linked p F u w) (steps_to p F w p.vertices u) []
