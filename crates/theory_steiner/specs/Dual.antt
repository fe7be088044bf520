-- Duals as a list: cuts with values (source 001, section 22.1: y_S; document 01's word is moats), in half units.
use Rattle.std.specs.Prelude.{ℕ, ◌+◌, ◌≡◌, Bool, true, [], List, ◌∷◌, map, ltb}
use Rattle.base_finite.specs.Below.{counted, those_below}
use Rattle.theory_graph.specs.Path.{crosses}
use Rattle.theory_steiner.specs.Problem.{Problem, separates}
use Rattle.theory_steiner.specs.Growth.{State, numbers}

pub record Dual : Type 0 where
  pub value : ℕ
  pub holds : ℕ → Bool

-- The sum of the values of those whose set passes the test; a set that occurs twice counts twice.
unfoldable pub weigh : List Dual → ((ℕ → Bool) → Bool) → ℕ
weigh [] t = 0
weigh (d ∷ ds) t = counted (t d.holds) d.value + weigh ds t

-- The sum of all.
unfoldable pub total : List Dual → ℕ
total ds = weigh ds (λ S. true)

-- The dual load of edge e (document 01, refusal 13; 001, section 22.1): the duals with exactly one of its ends inside.
unfoldable pub dual_load : Problem → List Dual → ℕ → ℕ
dual_load p ds e = weigh ds (λ S. crosses p.first p.second S e)

-- The dual's set has one vertex of a required pair inside and one outside (document 01, refusal 12).
abbrev pub Separating : Problem → Dual → Type 0
Separating p d = separates p d.holds ≡ true

-- What holds of every dual of a list.
pub data EachDual (P : Dual → Type 0) : List Dual → Type 0 where
  none : EachDual P []
  more : {d : Dual} {ds : List Dual} → P d → EachDual P ds → EachDual P (d ∷ ds)

-- The dual of component number c.
abbrev pub dual_of : State → ℕ → Dual
dual_of s c = record { value = s.value c; holds = s.holds c }

-- The duals of a growth with a value above 0: single vertices first, then merged components as they arose.
unfoldable pub duals_of : Problem → State → List Dual
duals_of p s = map (dual_of s) (those_below (numbers p s) (λ c. ltb 0 (s.value c)))
