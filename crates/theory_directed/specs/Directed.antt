-- Directed cuts: a floor for every set that joins, far nearer to the cheapest than the duals' (the bidirected cut relaxation with a tree's
-- root at the lowest of its groups). A cut is entered by arcs from outside; an edge is two arcs, and each may be loaded up to the edge's weight.
use Rattle.std.specs.Prelude.{ℕ, zero, suc, ◌+◌, ◌≤◌, ◌<◌, ◌≡◌, Bool, true, false, ◌&&◌, not, cond, [], List, ◌∷◌, eqb}
use Rattle.base_finite.specs.Below.{counted, any_below}
use Rattle.theory_steiner.specs.Problem.{Problem}

-- The lowest number below n that passes the test, where one does.
unfoldable pub lowest : ℕ → (ℕ → Bool) → ℕ
lowest zero t = 0
lowest (suc n) t = cond (any_below n t) (lowest n t) n

-- Groups by number, each with a root among its members. A number may have no member.
pub record Groups : Type 0 where
  pub count : ℕ
  pub member : ℕ → ℕ → Bool
  pub root : ℕ → ℕ

-- Group l has a member.
unfoldable pub peopled : Problem → Groups → (l : ℕ) → Bool
peopled p g l = any_below p.vertices (g.member l)

-- The groups of a problem: a set that joins every required pair joins each of them.
pub record Grouped (p : Problem) (g : Groups) : Type 0 where
  pub root_below : (l : ℕ) → l < g.count → peopled p g l ≡ true → g.root l < p.vertices
  pub root_member : (l : ℕ) → l < g.count → peopled p g l ≡ true → g.member l (g.root l) ≡ true
  pub within : (l u v : ℕ) → l < g.count → g.member l u ≡ true → g.member l v ≡ true → p.required u v ≡ true

-- A cut counts for one group.
pub record Cut : Type 0 where
  pub value : ℕ
  pub group : ℕ
  pub holds : ℕ → Bool

-- What holds of every cut of a list.
pub data EachCut (P : Cut → Type 0) : List Cut → Type 0 where
  none : EachCut P []
  more : {d : Cut} {ds : List Cut} → P d → EachCut P ds → EachCut P (d ∷ ds)

-- The sum of the values of those that pass the test; a cut that occurs twice counts twice.
unfoldable pub amount : List Cut → (Cut → Bool) → ℕ
amount [] t = 0
amount (d ∷ ds) t = counted (t d) d.value + amount ds t

-- The arc from u to v enters S.
unfoldable pub enters : (ℕ → Bool) → (u v : ℕ) → Bool
enters S u v = not (S u) && S v

-- The load of the arc from u to v: the cuts that it enters.
unfoldable pub arc_load : List Cut → (u v : ℕ) → ℕ
arc_load ds u v = amount ds (λ d. enters d.holds u v)

-- No usable edge is loaded above its weight, in either direction.
abbrev pub Fits : Problem → List Cut → Type 0
Fits p ds =
    (e : ℕ) → e < p.edges → p.usable e ≡ true →
    (arc_load ds (p.first e) (p.second e) ≤ p.weight e) × (arc_load ds (p.second e) (p.first e) ≤ p.weight e)

-- A cut for trees with the root of group k: it holds a member of its group, and, where its group is k or a later one, not that root.
pub record Rooted (p : Problem) (g : Groups) (k : ℕ) (d : Cut) : Type 0 where
  pub inside : any_below p.vertices (λ v. g.member d.group v && d.holds v) ≡ true
  pub outside : k ≤ d.group → d.holds (g.root k) ≡ false

-- For each group k a list of cuts, for trees in which k is the lowest group. What each list gives group l, from k = 0 to l, is at least its share.
pub record Certified (p : Problem) (g : Groups) (cuts : ℕ → List Cut) (share : ℕ → ℕ) : Type 0 where
  pub rooted : (k : ℕ) → k < g.count → peopled p g k ≡ true → EachCut (Rooted p g k) (cuts k)
  pub fits : (k : ℕ) → k < g.count → peopled p g k ≡ true → Fits p (cuts k)
  pub covers : (k l : ℕ) → k ≤ l → l < g.count → peopled p g k ≡ true → peopled p g l ≡ true → share l ≤ amount (cuts k) (λ d. eqb d.group l)
  pub idle : (l : ℕ) → l < g.count → peopled p g l ≡ false → share l ≡ 0
