-- Waking: a round that joins an idle single vertex gives the edges at it keys again, and lowers the floors of their blocks to these, so that the next searches look at
-- them in time (`plan_search: Scan`; law `woken_keys` says that these are the keys that the next round needs).
use Rattle.std.specs.Prelude.{ℕ, zero, suc, ◌+◌, ◌*◌, ◌-◌, ◌/◌, Bool, ◌&&◌, ◌||◌, not, cond, List, length, get_or, set, eqb, ltb}
use Rattle.plan_search.specs.Scan.{capped_time, block_edges}
use Rattle.plan_search.specs.Tables.{Tables}

-- Edge e has vertex c as an end.
unfoldable pub ends_at : (firsts seconds : List ℕ) → (c e : ℕ) → Bool
ends_at firsts seconds c e = eqb (get_or firsts e 0) c || eqb (get_or seconds e 0) c

-- Component c has a vertex's number, and is not active.
unfoldable pub idle_vertex : (flags : List ℕ) → (n c : ℕ) → Bool
idle_vertex flags n c = ltb c n && not (eqb (get_or flags c 0) 1)

-- The keys and the floors as noted.
pub record KeyNotes : Type 0 where
  pub keys : List ℕ
  pub floors : List ℕ

abbrev pub notes_from : (keys floors : List ℕ) → KeyNotes
notes_from keys floors = record { keys = keys; floors = floors }

-- How far the load of idle vertex c, which is held as it is, is behind the time.
unfoldable pub behind_by : (loads : List ℕ) → (time c : ℕ) → ℕ
behind_by loads time c = time - get_or loads c 0

-- The key of a woken edge at a vertex that is so far behind: no load is above the time, so that twice the time and what remains of the edge is not below this.
unfoldable pub woken_key : (weights : List ℕ) → (behind e : ℕ) → ℕ
woken_key weights behind e = capped_time behind + 2 * get_or weights e 0

-- Number i of a list is x at most.
unfoldable pub lowered : List ℕ → (i x : ℕ) → List ℕ
lowered l i x = cond (ltb x (get_or l i 0)) (set l i x) l

unfoldable pub woken_edge : (wakes : ℕ → Bool) (fresh : ℕ → ℕ) → KeyNotes → ℕ → KeyNotes
woken_edge wakes fresh s e = cond (wakes e) (notes_from (set s.keys e (fresh e)) (lowered s.floors (e / block_edges) (fresh e))) s

-- Those of so many edges that are to be woken, from edge `from` on.
unfoldable pub woken_on : (wakes : ℕ → Bool) (fresh : ℕ → ℕ) → KeyNotes → (from count : ℕ) → KeyNotes
woken_on wakes fresh s from zero = s
woken_on wakes fresh s from (suc k) = woken_edge wakes fresh (woken_on wakes fresh s from k) (from + k)

-- The edges at vertex c, if it is idle.
unfoldable pub woken_at : (firsts seconds weights loads flags : List ℕ) → (time n c : ℕ) → KeyNotes → KeyNotes
woken_at firsts seconds weights loads flags time n c s =
    woken_on (λ e. idle_vertex flags n c && ends_at firsts seconds c e) (woken_key weights (behind_by loads time c)) s 0 (length firsts)

-- The edges at the two components that edge e joins.
unfoldable pub woken_by : Tables → (time n e : ℕ) → KeyNotes → KeyNotes
woken_by t time n e s =
    let at : ℕ → KeyNotes → KeyNotes = woken_at t.firsts t.seconds t.weights t.loads t.flags time n in
    at (get_or t.labels (get_or t.seconds e 0) 0) (at (get_or t.labels (get_or t.firsts e 0) 0) s)

-- So many edges are compared with a vertex at once.
abbrev pub wake_edges : ℕ
wake_edges = 16

-- The shorter of two lengths.
unfoldable pub least_of : (m k : ℕ) → ℕ
least_of m k = cond (ltb k m) k m

-- Where the part ends that begins at `from`, within a length.
unfoldable pub part_end : (from least : ℕ) → ℕ
part_end from least = cond (ltb wake_edges (least - from)) (from + wake_edges) least
