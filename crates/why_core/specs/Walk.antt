-- A walk of the kept forest: what a call of it leaves, and where it is refused.
use Rattle.std.specs.Prelude.{ℕ, ◌+◌, ◌-◌, ◌<◌, ◌≤◌, ◌≡◌, Bool, true, cond, List, [], ◌∷◌, length, get_or, set, eqb, ltb}
use Rattle.base_limits.specs.Limits.{max_vertices, max_edges}
use Rattle.base_limits.specs.Verdict.{refuse_if, ◌before◌}
use Rattle.base_limits.specs.declared.Verdict.{Verdict}
use Rattle.theory_graph.specs.Path.{Leads}
use Rattle.survey_core.specs.Survey.{Survey, vertex_count}
use Rattle.survey_components.specs.Labels.{picked_in}
use Rattle.survey_components.specs.Forest.{forest_refusal}
use Rattle.theory_route.specs.Route.{occurs, Route}
use Rattle.std.specs.Prelude.{Option, Some, None}

-- How many places of a list hold 0: the vertices that are not visited yet.
unfoldable pub unvisited : List ℕ → ℕ
unvisited [] = 0
unvisited (x ∷ xs) = cond (eqb x 0) 1 0 + unvisited xs

-- The entries from place i on, the last one stored first.
unfoldable pub stored_at : List ℕ → (i : ℕ) → (entries : List ℕ) → List ℕ
stored_at route i [] = route
stored_at route i (e ∷ es) = set (stored_at route (i + 1) es) i e

-- What a walk asks: edges of the forest are surveyed ones, their ends are vertices, and so many steps can be counted.
pub record Walkable (firsts seconds kept visited : List ℕ) (depth : ℕ) : Type 0 where
  pub few : length firsts ≤ max_edges
  pub bounded : (e : ℕ) → picked_in kept e ≡ true → e < length firsts
  pub first_below_law : (e : ℕ) → e < length firsts → get_or firsts e 0 < length visited
  pub second_below : (e : ℕ) → e < length firsts → get_or seconds e 0 < length visited
  pub fits : depth + unvisited visited ≤ max_vertices

-- What a search that did not meet its goal has done: nothing is unvisited again, and from each newly visited vertex every edge leads to a visited one.
pub record Explored (a b : ℕ → ℕ) (F : ℕ → Bool) (goal : ℕ) (was left : List ℕ) : Type 0 where
  pub fewer : unvisited left ≤ unvisited was
  pub long : length left ≡ length was
  pub keeps : (x : ℕ) → (get_or was x 0 ≡ 0 → ⊥) → get_or left x 0 ≡ 0 → ⊥
  pub closed : (e x y : ℕ) → F e ≡ true → Leads a b e x y → get_or was x 0 ≡ 0 → (get_or left x 0 ≡ 0 → ⊥) → get_or left y 0 ≡ 0 → ⊥
  pub misses : get_or was goal 0 ≡ 0 → get_or left goal 0 ≡ 0

-- How a walk from v ends: it arrives by a route over unvisited vertices, whose edges it has stored from place `depth` on and nothing else; or it is lost, and has stored nothing.
pub data WalkEnds (a b : ℕ → ℕ) (F : ℕ → Bool) (v goal depth : ℕ) (was left route stored : List ℕ) : Option ℕ → Type 0 where
  arrives : {entries : ℕ} (es vs : List ℕ) → v < length was → Route a b F v goal es vs → ((x : ℕ) → occurs vs x ≡ true → get_or was x 0 ≡ 0)
      → length es + 1 ≤ unvisited was → entries ≡ depth + length es → stored ≡ stored_at route depth es
      → WalkEnds a b F v goal depth was left route stored (Some entries)
  fails : Explored a b F goal was left → (v < length was → get_or left v 0 ≡ 0 → ⊥) → stored ≡ route
      → WalkEnds a b F v goal depth was left route stored None

-- The refusals of a route: those of a forest that joins the groups, then 7 for fewer entries than a route can have.
unfoldable pub route_refusal : Survey → (kept : List ℕ) → (route_length : ℕ) → Verdict
route_refusal s kept route_length = forest_refusal s kept before refuse_if (ltb route_length (vertex_count s - 1)) 7 0
