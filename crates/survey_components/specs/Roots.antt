-- Components as trees in a buffer: each vertex hangs on one of its component, and a root on itself.
use Rattle.std.specs.Prelude.{ℕ, zero, suc, Bool, cond, List, get_or, set, eqb}

-- Where a climb ends, and the buffer that it leaves.
pub record Climbed : Type 0 where
  pub root : ℕ
  pub parents : List ℕ

abbrev pub climbed_to : (root : ℕ) (parents : List ℕ) → Climbed
climbed_to r p = record { root = r; parents = p }

-- From x up to a root, in at most k steps; each vertex that a step leaves then hangs on the one two above it, where the step goes.
unfoldable pub climbed : (k : ℕ) → List ℕ → (x : ℕ) → Climbed
climbed zero parents x = climbed_to x parents
climbed (suc k) parents x =
    let up = get_or parents x 0 in
    let above = get_or parents up 0 in
    cond (eqb up x) (climbed_to x parents) (climbed k (set parents x above) above)

-- The climbs from a and then from b.
unfoldable pub climbed_twice : (k a b : ℕ) → List ℕ → Climbed
climbed_twice k a b parents = climbed k (climbed k parents a).parents b

-- The root above b hangs on the one above a.
unfoldable pub ends_hung : (k a b : ℕ) → List ℕ → List ℕ
ends_hung k a b parents = let second = climbed_twice k a b parents in set second.parents second.root (climbed k parents a).root

-- The two roots are one.
unfoldable pub one_root : (k a b : ℕ) → List ℕ → Bool
one_root k a b parents = eqb (climbed k parents a).root (climbed_twice k a b parents).root

-- Each vertex below i hangs on its root.
unfoldable pub levelled : (k i : ℕ) → List ℕ → List ℕ
levelled k zero parents = parents
levelled k (suc v) parents =
    let below = levelled k v parents in let top = climbed k below (get_or below v 0) in set top.parents v top.root
