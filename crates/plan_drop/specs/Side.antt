-- How pruning finds the two sides of every edge of a forest in one pass over its edges. A new edge gets one of the two components that it joins as
-- its side; and where the ends of the new edge lie on different sides of an older one, the other component changes sides.
use Rattle.std.specs.Prelude.{ℕ, zero, suc, Bool, false, cond, ◌&&◌, ◌==◌}
use Rattle.std.specs.Bool.{xor}
use Rattle.theory_graph.specs.Component.{components}

-- What edge e makes of the side of edge f, under the labels of the components before it.
unfoldable pub side_step : (a b : ℕ → ℕ) (label : ℕ → ℕ) (e f : ℕ) → (ℕ → Bool) → ℕ → Bool
side_step a b label e f side w =
    cond (f == e) (label w == label (a e)) (xor (side w) (label w == label (b e) && xor (side (a e)) (side (b e))))

-- The side of edge f after the edges of F below m.
unfoldable pub sides : (n : ℕ) (a b : ℕ → ℕ) → (ℕ → Bool) → (m f : ℕ) → ℕ → Bool
sides n a b F zero f = λ w. false
sides n a b F (suc e) f =
    let before = sides n a b F e f in cond (F e) (side_step a b (components n a b F e) e f before) before
