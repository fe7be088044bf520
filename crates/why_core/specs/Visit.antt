-- What a walk asks at a vertex.
use Rattle.std.specs.Prelude.{ℕ, Bool, ◌&&◌, List, length, get_or, eqb, ltb}

-- v is a vertex that is not visited yet.
unfoldable pub is_unvisited : List ℕ → ℕ → Bool
is_unvisited visited v = ltb v (length visited) && eqb (get_or visited v 0) 0

-- The end of edge e, by a buffer of ends.
abbrev pub end_in : List ℕ → ℕ → ℕ
end_in ends e = get_or ends e 0
