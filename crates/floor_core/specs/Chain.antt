-- The arcs of a survey by the vertex that they lead to: each is linked to the one before it that leads there too.
use Rattle.std.specs.Prelude.{ℕ, zero, suc, ◌+◌, ◌*◌, ◌≤◌, ◌<◌, ◌≡◌, Option, Some, None, true, false, cond, List, length, get_or, eqb}
use Rattle.base_limits.specs.Limits.{max_vertices, max_edges}
use Rattle.floor_rule.specs.Ascent.{arc_count, tail_of, head_of, flagged, reaching, least_rest, loaded}

-- The highest arc below n that leads to v, and one; 0: none does.
unfoldable pub last_into : (firsts seconds : List ℕ) → (v n : ℕ) → ℕ
last_into firsts seconds v zero = 0
last_into firsts seconds v (suc a) = cond (eqb (head_of firsts seconds a) v) (suc a) (last_into firsts seconds v a)

-- An arc's tail and, 512 times, the last arc before it that leads where it does.
unfoldable pub link_of : (firsts seconds : List ℕ) → (a : ℕ) → ℕ
link_of firsts seconds a = tail_of firsts seconds a + 512 * last_into firsts seconds (head_of firsts seconds a) a

-- There is room for n vertices and for the arcs, and every arc's ends are among them.
pub record Ends (n : ℕ) (firsts seconds : List ℕ) : Type 0 where
  pub few : n ≤ max_vertices
  pub short : length firsts ≤ max_edges
  pub tails_below : (a : ℕ) → a < arc_count firsts → tail_of firsts seconds a < n
  pub heads_below : (a : ℕ) → a < arc_count firsts → head_of firsts seconds a < n

-- The arcs below n are linked.
pub record Chained (firsts seconds : List ℕ) (n : ℕ) (tops links : List ℕ) : Type 0 where
  pub tops_are : (v : ℕ) → v < max_vertices → get_or tops v 0 ≡ last_into firsts seconds v n
  pub links_are : (a : ℕ) → a < n → get_or links a 0 ≡ link_of firsts seconds a

-- The cut round v, raised by as much as the arcs bear and no more than the cap; None where the root is inside.
pub record CutRaised (firsts seconds : List ℕ) (n root v cap : ℕ) (rests after : List ℕ) (raised : Option ℕ) : Type 0 where
  pub root_inside : raised ≡ None → (flagged (reaching firsts seconds rests n v) root ≡ true) × (after ≡ rests)
  pub root_outside : (by : ℕ) → raised ≡ Some by →
      (flagged (reaching firsts seconds rests n v) root ≡ false)
      × (by ≡ least_rest firsts seconds rests (reaching firsts seconds rests n v) cap (arc_count firsts))
      × (after ≡ loaded firsts seconds (reaching firsts seconds rests n v) by rests)
