-- The Steiner forest problem over plain numbers (source 001, Problem 22.1, restated by a requirement r(u, v)). A survey, with groups or
-- with overlapping lists, with all its tracks or with one closed, is an instance.
use Rattle.std.specs.Prelude.{ℕ, ◌≤◌, ◌<◌, ◌≡◌, Bool, true, ◌&&◌, ◌||◌, not, eqb, ltb}
use Rattle.base_finite.specs.Below.{counted, sum_below, count_below, any_below, all_below}
use Rattle.theory_graph.specs.Path.{Linked}
use Rattle.theory_graph.specs.Component.{components}

-- Document 01's words are junctions, tracks, ends and price. `usable` edges are those that may be picked; `required u v` is r(u, v).
pub record Problem : Type 0 where
  pub vertices : ℕ
  pub edges : ℕ
  pub first : ℕ → ℕ
  pub second : ℕ → ℕ
  pub weight : ℕ → ℕ
  pub usable : ℕ → Bool
  pub required : ℕ → ℕ → Bool

-- What the refusals 4 and 5 leave, and r of an unordered pair.
pub record Sound (p : Problem) : Type 0 where
  pub first_below_law : (e : ℕ) → e < p.edges → p.first e < p.vertices
  pub second_below : (e : ℕ) → e < p.edges → p.second e < p.vertices
  pub ends_differ : (e : ℕ) → e < p.edges → p.first e ≡ p.second e → ⊥
  pub symmetric : (u v : ℕ) → p.required u v ≡ true → p.required v u ≡ true

-- F holds numbers of edges only.
abbrev pub Bounded : Problem → (ℕ → Bool) → Type 0
Bounded p F = (e : ℕ) → F e ≡ true → e < p.edges

-- F is a set of numbers of edges that may be used.
abbrev pub EdgeSet : Problem → (ℕ → Bool) → Type 0
EdgeSet p F = (e : ℕ) → F e ≡ true → (e < p.edges) × (p.usable e ≡ true)

-- The usable edges, as a set.
unfoldable pub all_usable : Problem → ℕ → Bool
all_usable p e = ltb e p.edges && p.usable e

-- F has a path for each required pair (document 01: 'joins every group').
abbrev pub Joins : Problem → (ℕ → Bool) → Type 0
Joins p F = (u v : ℕ) → u < p.vertices → v < p.vertices → p.required u v ≡ true → Linked p.first p.second F u v

-- The same, by the labels of F's components (law `joined_iff`).
unfoldable pub joined : Problem → (ℕ → Bool) → Bool
joined p F =
    let label = components p.vertices p.first p.second F p.edges in
    all_below p.vertices (λ u. all_below p.vertices (λ v. not (p.required u v) || eqb (label u) (label v)))

-- The sum of the weights, each edge once.
unfoldable pub cost : Problem → (ℕ → Bool) → ℕ
cost p F = sum_below p.edges (λ e. counted (F e) (p.weight e))

-- No set of usable edges that joins costs less than F (document 02, No. 14: 'where near best is best').
abbrev pub Cheapest : Problem → (ℕ → Bool) → Type 0
Cheapest p F = (G : ℕ → Bool) → EdgeSet p G → Joins p G → cost p F ≤ cost p G

-- f(S) of source 001, section 22.1: some required pair has one vertex inside S and one outside.
unfoldable pub separates : Problem → (ℕ → Bool) → Bool
separates p S = any_below p.vertices (λ u. S u && any_below p.vertices (λ v. not (S v) && p.required u v))

-- Document 01's site: some other vertex is required to be linked with it.
unfoldable pub terminal : Problem → ℕ → Bool
terminal p v = any_below p.vertices (λ u. not (eqb u v) && p.required u v)

-- Document 01's k.
unfoldable pub terminals : Problem → ℕ
terminals p = count_below p.vertices (terminal p)
