-- Component labels as they stand in a buffer, and the merging of two components there.
use Rattle.std.specs.Prelude.{ℕ, ◌<◌, List, length, get_or}
use Rattle.theory_graph.specs.Component.{merged}
use Rattle.base_buffer.specs.Store.{remade}

-- z in place of x and of y.
unfoldable pub relabelled : (x y z : ℕ) → List ℕ → List ℕ
relabelled x y z labels = remade (λ v. merged x y z (λ l. l)) (length labels) labels

-- The components of vertices a and b become a's.
unfoldable pub ends_joined : (a b : ℕ) → List ℕ → List ℕ
ends_joined a b labels = relabelled (get_or labels a 0) (get_or labels b 0) (get_or labels a 0) labels

-- The ends of the edges below m are below n.
pub record EndsWithin (n m : ℕ) (a b : ℕ → ℕ) : Type 0 where
  pub first_within : (e : ℕ) → e < m → a e < n
  pub second_within : (e : ℕ) → e < m → b e < n
