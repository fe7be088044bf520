-- How a round turns what is held for values and loads, where the flag of a component changes.
use Rattle.std.specs.Prelude.{ℕ, true, cond, List, ◌==◌, nat_lt, slice_index, slice_set}
use Rattle.base_buffer.specs.Store.{remade}
use Rattle.plan_search.specs.Held.{settled_by}

-- The value of component c settled.
unfoldable pub settled_at : (flags : List ℕ) → (time c : ℕ) → (values : List ℕ) → List ℕ
settled_at flags time c values = slice_set values c (settled_by time (slice_index flags c == 1) (slice_index values c))

-- The same for the first components.
unfoldable pub settled_values : (flags : List ℕ) → (count time : ℕ) → (values : List ℕ) → List ℕ
settled_values flags count time values = remade (λ c x. settled_by time (slice_index flags c == 1) x) count values

-- What is held for the load of vertex v, turned.
unfoldable pub turned_at : (time v : ℕ) → (loads : List ℕ) → List ℕ
turned_at time v loads = slice_set loads v (settled_by time true (slice_index loads v))

-- The same for those of the first n vertices that are of component c.
unfoldable pub turned_members : (labels : List ℕ) → (n time c : ℕ) → (loads : List ℕ) → List ℕ
turned_members labels n time c loads = remade (λ v x. settled_by time (slice_index labels v == c) x) n loads

-- The same for component c: a number below n is that of a single vertex (law `label_own`).
unfoldable pub turned_component : (labels : List ℕ) → (n time c : ℕ) → (loads : List ℕ) → List ℕ
turned_component labels n time c loads = cond (nat_lt c n) (turned_at time c loads) (turned_members labels n time c loads)

-- The same if component c, which becomes part of one with this flag, had another.
unfoldable pub turned_to : (flag : ℕ) → (flags labels : List ℕ) → (n time c : ℕ) → (loads : List ℕ) → List ℕ
turned_to flag flags labels n time c loads = cond (slice_index flags c == flag) loads (turned_component labels n time c loads)
