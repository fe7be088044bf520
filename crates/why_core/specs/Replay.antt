-- The picks merged in their order (document 02, No. 3: the round after which the ends were first in one component).
use Rattle.std.specs.Prelude.{ℕ, suc, ◌<◌, Bool, true, List, length, get_or, eqb}
use Rattle.base_limits.specs.Limits.{max_vertices}
use Rattle.theory_graph.specs.Component.{components}
use Rattle.why_rule.specs.Reason.{first_or_zero}

-- Labels of the components that the first r edges of an order make: pick i is an edge between the ends of edge number `order i`.
unfoldable pub labels_after : (firsts seconds order : List ℕ) → (r : ℕ) → ℕ → ℕ
labels_after firsts seconds order r = components max_vertices (λ i. get_or firsts (get_or order i 0) 0) (λ i. get_or seconds (get_or order i 0) 0) (λ i. true) r

-- They link the ends of edge e.
unfoldable pub linked_after : (firsts seconds order : List ℕ) → (e r : ℕ) → Bool
linked_after firsts seconds order e r = let label = labels_after firsts seconds order r in eqb (label (get_or firsts e 0)) (label (get_or seconds e 0))

-- The least number of picks that do; 0 where all do not.
unfoldable pub round_in : (firsts seconds order : List ℕ) → (e : ℕ) → ℕ
round_in firsts seconds order e = first_or_zero (suc (length order)) (linked_after firsts seconds order e)

-- Every end has a label.
pub record PicksFit (firsts seconds : List ℕ) : Type 0 where
  pub first_below_law : (e : ℕ) → get_or firsts e 0 < max_vertices
  pub second_below : (e : ℕ) → get_or seconds e 0 < max_vertices
