-- Taking edges one by one, by weight, then number, each that joins two parts (document 02, No. 14: 'Where near best is
-- best').
use Rattle.std.specs.Prelude.{ℕ, zero, suc, ◌<◌, ◌≡◌, Bool, true, false, ◌&&◌, ◌||◌, not, cond, eqb, ltb}
use mathlib.Core.List.{[], List, ◌∷◌, Memᴰ}
use Rattle.theory_graph.specs.Component.{components}
use Rattle.theory_steiner.specs.Problem.{Problem}

-- Any two vertices are required to be linked: all junctions are in one group.
abbrev pub RequiresAll : Problem → Type 0
RequiresAll p = (u v : ℕ) → u < p.vertices → v < p.vertices → p.required u v ≡ true

-- e comes before f, by weight, then number.
unfoldable pub comes_before : Problem → (e f : ℕ) → Bool
comes_before p e f = ltb (p.weight e) (p.weight f) || (eqb (p.weight e) (p.weight f) && ltb e f)

-- e put into a list before the first edge that it comes before.
unfoldable pub placed : Problem → ℕ → List ℕ → List ℕ
placed p e [] = e ∷ []
placed p e (f ∷ fs) = cond (comes_before p e f) (e ∷ (f ∷ fs)) (f ∷ placed p e fs)

-- The usable edges below m in this order (laws `in_order_rising`, `in_order_all`, `in_order_only`).
unfoldable pub in_order_law : Problem → (m : ℕ) → List ℕ
in_order_law p zero = []
in_order_law p (suc e) = cond (p.usable e) (placed p e (in_order_law p e)) (in_order_law p e)

-- Each comes before all that follow it.
pub data Rising (p : Problem) : List ℕ → Type 0 where
  none : Rising p []
  more : {e : ℕ} {es : List ℕ} → ((f : ℕ) → Memᴰ f es → comes_before p e f ≡ true) → Rising p es → Rising p (e ∷ es)

-- e joins two parts of F: its ends are in different components.
unfoldable pub joins_parts : Problem → (ℕ → Bool) → ℕ → Bool
joins_parts p F e =
    let label = components p.vertices p.first p.second F p.edges in
    not (eqb (label (p.first e)) (label (p.second e)))

-- F and, if the test holds, e too.
unfoldable pub with_edge : (ℕ → Bool) → (e : ℕ) → Bool → ℕ → Bool
with_edge F e t f = F f || (t && eqb f e)

-- F and what is taken of a list, from its head on: each edge that joins two parts of what is taken by then.
unfoldable pub taken_from : Problem → (ℕ → Bool) → List ℕ → ℕ → Bool
taken_from p F [] = F
taken_from p F (e ∷ es) = taken_from p (with_edge F e (joins_parts p F e)) es

-- What is taken of all usable edges in order, from nothing.
unfoldable pub taken : Problem → ℕ → Bool
taken p = taken_from p (λ e. false) (in_order_law p p.edges)
