-- The vertices whose cut needs no visit more.
use Rattle.std.specs.Prelude.{ℕ, ◌<◌, ◌≡◌, true, List, get_or}
use Rattle.floor_rule.specs.Ascent.{flagged, reaching}

-- The root is inside the cut round each vertex that is marked.
pub record Done (firsts seconds : List ℕ) (n root : ℕ) (rests done : List ℕ) : Type 0 where
  pub root_inside : (v : ℕ) → v < n → (get_or done v 0 ≡ 0 → ⊥) → flagged (reaching firsts seconds rests n v) root ≡ true
