-- How duals grow (document 01, 'How moats grow'; source 001, Algorithm 22.3, steps 1 and 2). Values are in half units.
-- Components are numbered as they arise: the single vertices first, then one for each round. A component's dual has its number.
use Rattle.std.specs.Prelude.{ℕ, zero, suc, ◌+◌, ◌*◌, ◌-◌, ◌/◌, ◌≡◌, Bool, true, false, ◌&&◌, ◌||◌, not, cond, eqb, ltb}
use Rattle.base_finite.specs.Below.{counted, sum_below, memo}
use Rattle.theory_graph.specs.Component.{merged}
use Rattle.theory_steiner.specs.Problem.{Problem, separates}

pub record State : Type 0 where
  -- rounds so far
  pub rounds : ℕ
  -- the number of the component that a vertex is in
  pub label : ℕ → ℕ
  -- the value of the dual of a component number (document 01: a moat's amount)
  pub value : ℕ → ℕ
  -- the members of a component number
  pub holds : ℕ → ℕ → Bool
  -- the edges picked
  pub picked : ℕ → Bool

-- Before the first round each vertex is its own component, and no edge is picked.
unfoldable pub start : State
start = record { rounds = 0; label = λ v. v; value = λ c. 0; holds = λ c v. eqb v c; picked = λ e. false }

-- Document 01's growing (source 001, Lemma 22.2): component c holds a vertex that is required to be linked with one outside it.
unfoldable pub active : Problem → (ℕ → ℕ) → ℕ → Bool
active p label c = separates p (λ v. eqb (label v) c)

-- The number of component numbers so far, and so the number of the next component.
unfoldable pub numbers : Problem → State → ℕ
numbers p s = p.vertices + s.rounds

-- The load of a vertex: the sum of the values of all duals that hold it.
unfoldable pub load : Problem → State → ℕ → ℕ
load p s v = sum_below (numbers p s) (λ c. counted (s.holds c v) (s.value c))

-- What remains of an edge: twice its weight less the loads of its two ends.
unfoldable pub slack : Problem → State → ℕ → ℕ
slack p s e = 2 * p.weight e - (load p s (p.first e) + load p s (p.second e))

-- Document 01's wait; an edge that is no candidate has none.
pub data Delay : Type 0 where
  never : Delay
  after : ℕ → Delay

-- The ends of an edge between two components, by how many are active. Source 003, section 4.2.1, tells these cases apart by its two minima
-- (Minima.antt, law `round_delay_law`).
pub data ActiveEnds : Type 0 where
  none_active : ActiveEnds
  one_active : ActiveEnds
  both_active : ActiveEnds

unfoldable pub active_ends : Bool → Bool → ActiveEnds
active_ends false false = none_active
active_ends false true = one_active
active_ends true false = one_active
active_ends true true = both_active

-- The delay in each case: none; what remains; half of what remains.
unfoldable pub delay_for : ActiveEnds → (slack : ℕ) → Delay
delay_for none_active r = never
delay_for one_active r = after r
delay_for both_active r = after (r / 2)

-- By whether each end is active, and what remains.
unfoldable pub delay_of : Bool → Bool → ℕ → Delay
delay_of x y r = delay_for (active_ends x y) r

unfoldable pub delay : Problem → State → ℕ → Delay
delay p s e =
    let x = s.label (p.first e) in
    let y = s.label (p.second e) in
    cond (p.usable e && not (eqb x y)) (delay_of (active p s.label x) (active p s.label y) (slack p s e)) never

-- The winner of a round, if there is a candidate: an edge and its delay.
pub data Winner : Type 0 where
  nobody : Winner
  edge : (e d : ℕ) → Winner

-- The earlier edge keeps its place unless the later one's delay is smaller: 'among equals the lowest track number'.
unfoldable pub better : Winner → ℕ → Delay → Winner
better w e never = w
better nobody e (after d) = edge e d
better (edge f c) e (after d) = cond (ltb d c) (edge e d) (edge f c)

unfoldable pub winner_below : Problem → State → ℕ → Winner
winner_below p s zero = nobody
winner_below p s (suc e) = better (winner_below p s e) e (delay p s e)

unfoldable pub winner : Problem → State → Winner
winner p s = winner_below p s p.edges

-- A round: the active components are raised by the delay, the edge is picked, and its two components become a new one.
unfoldable pub pick : Problem → State → (e d : ℕ) → State
pick p s e d =
    let x = s.label (p.first e) in
    let y = s.label (p.second e) in
    let z = numbers p s in
    record {
      rounds = suc s.rounds;
      label = memo p.vertices (merged x y z s.label);
      value = memo z (λ c. s.value c + counted (active p s.label c) d);
      holds = λ c v. cond (eqb c z) (s.holds x v || s.holds y v) (s.holds c v);
      picked = λ f. s.picked f || eqb f e;
    }

-- The states that rounds lead to: a round picks its winner.
pub data Reached (p : Problem) : State → Type 0 where
  first : Reached p start
  next : {s : State} {e d : ℕ} → Reached p s → winner p s ≡ edge e d → Reached p (pick p s e d)

-- One round; with no candidate nothing happens.
unfoldable pub advance : Problem → State → Winner → State
advance p s nobody = s
advance p s (edge e d) = pick p s e d

unfoldable pub state_at : Problem → ℕ → State
state_at p zero = start
state_at p (suc r) = let s = state_at p r in advance p s (winner p s)

-- After n steps, more than there can be rounds (law `rounds_lt`).
unfoldable pub grown : Problem → State
grown p = state_at p p.vertices
