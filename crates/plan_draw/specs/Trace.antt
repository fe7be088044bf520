-- What a growth leaves of its rounds, and the duals that follow from it (document 01, 'How moats grow' and 'What a plan holds').
use Rattle.std.specs.Prelude.{ℕ, zero, suc, ◌+◌, ◌*◌, ◌-◌, ◌≤◌, ◌<◌, ◌≡◌, Bool, ◌&&◌, cond, List, [], length, get_or, set, eqb, ltb, leb}
use Rattle.base_finite.specs.Below.{all_below}
use Rattle.theory_graph.specs.Component.{merged}
use Rattle.base_limits.specs.Limits.{max_vertices, record_bytes}
use Rattle.theory_steiner.specs.Problem.{Problem}
use Rattle.theory_steiner.specs.Growth.{winner, edge, state_at, grown}
use Rattle.theory_steiner.specs.Dual.{Dual}
use Rattle.survey_components.specs.Roots.{Climbed, climbed_to, climbed}
use Rattle.plan_draw.specs.Drawing.{duals_below}

-- Rounds are counted from 0; `first` and `second` are the ends of the edge that a round picked, and `value` is that of a component number.
pub record Trace : Type 0 where
  pub vertices : ℕ
  pub rounds : ℕ
  pub first : ℕ → ℕ
  pub second : ℕ → ℕ
  pub value : ℕ → ℕ

-- The end, in a list of first or of second ends, of the edge that round r picked.
unfoldable pub end_of : (ends order : List ℕ) → (r : ℕ) → ℕ
end_of ends order r = get_or ends (get_or order r 0) 0

-- A trace as it is lent: the ends of all edges, the values, and the edge of each round.
abbrev pub trace_from : (n : ℕ) → (firsts seconds values order : List ℕ) → (rounds : ℕ) → Trace
trace_from n firsts seconds values order rounds =
    record {
      vertices = n;
      rounds = rounds;
      first = end_of firsts order;
      second = end_of seconds order;
      value = λ c. get_or values c 0;
    }

-- The trace that four lent buffers held when the call began.
abbrev pub lent_trace : (n : ℕ) → (firsts seconds values order : List ℕ) → (rounds : ℕ) → Trace
lent_trace n firsts seconds values order rounds = trace_from n firsts seconds values order rounds

-- The component number of a vertex after r rounds: round r makes component n + r of those of its edge's ends.
unfoldable pub label_after : Trace → ℕ → ℕ → ℕ
label_after t zero v = v
label_after t (suc r) v = merged (label_after t r (t.first r)) (label_after t r (t.second r)) (t.vertices + r) (label_after t r) v

-- The replay hangs each component number on the component that it became part of: the root above it is the component that it is in.

-- What component c is made of at one of its ends, and the trees behind that climb: a single vertex of itself, any other of the component of that end of its
-- round's edge.
unfoldable pub part_of : (end : ℕ → ℕ) → (n c : ℕ) → (ups : List ℕ) → Climbed
part_of end n c ups = cond (ltb c n) (climbed_to c ups) (climbed c ups (end (c - n)))

-- The trees when component c has arisen of components x and y.
unfoldable pub hung_on : (x y c : ℕ) → List ℕ → List ℕ
hung_on x y c ups = set (set (set ups x c) y c) c c

-- The members of component c are the vertices in it when it arose: at the start, or after round c - n.
unfoldable pub member_of : Trace → (c v : ℕ) → Bool
member_of t c v = ltb v t.vertices && eqb (label_after t (c + 1 - t.vertices) v) c

-- By component number, so that single vertices come before merged components ('What a plan holds').
unfoldable pub trace_duals : Trace → List Dual
trace_duals t = duals_below t.value (member_of t) (t.vertices + t.rounds)

-- What the replay needs: room for the records, and every end a vertex.
pub record Drawable (t : Trace) (records : List ℕ) : Type 0 where
  pub few : t.vertices ≤ max_vertices
  pub few_rounds : t.rounds ≤ t.vertices
  pub room : record_bytes * (t.vertices + t.rounds) ≤ length records
  pub first_below_law : (r : ℕ) → r < t.rounds → t.first r < t.vertices
  pub second_below : (r : ℕ) → r < t.rounds → t.second r < t.vertices

-- The ends of the edge of round r are vertices.
unfoldable pub ends_fit : (n : ℕ) → (first second : ℕ → ℕ) → (r : ℕ) → Bool
ends_fit n first second r = ltb (first r) n && ltb (second r) n

-- The same as a test, with room for so many bytes (laws `drawable_test`, `test_drawable`).
unfoldable pub is_drawable : Trace → (room : ℕ) → Bool
is_drawable t room =
    leb t.vertices max_vertices && (leb t.rounds t.vertices
    && (leb (record_bytes * (t.vertices + t.rounds)) room && all_below t.rounds (ends_fit t.vertices t.first t.second)))

-- The duals that are drawn of any trace: none where it cannot be replayed.
unfoldable pub drawn_duals : Trace → (room : ℕ) → List Dual
drawn_duals t room = cond (is_drawable t room) (trace_duals t) []

-- The trace of a problem's growth.
pub record TraceOf (p : Problem) (t : Trace) : Type 0 where
  pub vertices_are : t.vertices ≡ p.vertices
  pub rounds_are : t.rounds ≡ (grown p).rounds
  pub firsts_are : (r e d : ℕ) → r < t.rounds → winner p (state_at p r) ≡ edge e d → t.first r ≡ p.first e
  pub seconds_are : (r e d : ℕ) → r < t.rounds → winner p (state_at p r) ≡ edge e d → t.second r ≡ p.second e
  pub values_are : (c : ℕ) → c < t.vertices + t.rounds → t.value c ≡ (grown p).value c
