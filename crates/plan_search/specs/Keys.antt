-- The keys that the search begins with (`plan_search: Scan`; law `keyed_start` says that they bound). Before the first round each vertex is a component of its own.
use Rattle.std.specs.Prelude.{ℕ, ◌*◌, ◌&&◌, ◌||◌, cond, List, get_or, eqb}
use Rattle.plan_search.specs.Scan.{no_key}

-- All of an edge remains, twice its weight; one between two idle vertices rests, and one that has an idle end is reached from the other.
unfoldable pub start_key : (first second weight : ℕ) → ℕ
start_key first second weight =
    cond (eqb first 1 || eqb second 1) (cond (eqb first 1 && eqb second 1) (2 * weight) (2 * (2 * weight))) no_key

-- That of edge e, by the flags of its ends.
unfoldable pub start_key_of : (firsts seconds weights flags : List ℕ) → (e : ℕ) → ℕ
start_key_of firsts seconds weights flags e = start_key (get_or flags (get_or firsts e 0) 0) (get_or flags (get_or seconds e 0) 0) (get_or weights e 0)
