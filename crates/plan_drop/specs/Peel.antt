-- The order in which a forest comes apart: a vertex with one edge left is taken away with that edge, until none is left. Reads past the N places of a
-- buffer give 0 and stores there do nothing, so it is said for any ends and any edges; numbers are those of 32 bits.
use Rattle.std.specs.Prelude.{ℕ, zero, suc, ◌+◌, ◌%◌, ◌^◌, Bool, cond, ◌&&◌, List, replicate, ◌==◌, bit_xor, nat_lt, slice_index, slice_index_or, slice_set}
use Rattle.base_finite.specs.Below.{count_below}

-- Of each vertex how many edges are left, and the exclusive ors of these edges' other ends and of their marks: with one edge left they are its own.
pub record EndSums : Type 0 where
  pub degrees : List ℕ
  pub others : List ℕ
  pub marks : List ℕ

abbrev pub ends_of : (degrees others marks : List ℕ) → EndSums
ends_of d o m = record { degrees = d; others = o; marks = m }

-- The vertices that are to go, in order, and how many they are.
pub record Queue : Type 0 where
  pub order : List ℕ
  pub count : ℕ

abbrev pub queue_of : (order : List ℕ) (count : ℕ) → Queue
queue_of o c = record { order = o; count = c }

pub record Peel : Type 0 where
  pub ends : EndSums
  pub queue : Queue

abbrev pub peel_of : EndSums → Queue → Peel
peel_of e q = record { ends = e; queue = q }

-- 1 edge more or less at a vertex.
abbrev pub one_more : ℕ
one_more = 1

abbrev pub one_less : ℕ
one_less = 4294967295

-- An edge to w with this mark comes to v, or goes from it.
unfoldable pub end_turned : (v w mark more : ℕ) → EndSums → EndSums
end_turned v w mark more s =
    record {
      degrees = slice_set s.degrees v ((slice_index s.degrees v + more) % 2 ^ 32);
      others = slice_set s.others v (bit_xor (slice_index s.others v) w);
      marks = slice_set s.marks v (bit_xor (slice_index s.marks v) mark);
    }

-- An edge comes to both its ends.
unfoldable pub edge_noted : (a b mark : ℕ) → EndSums → EndSums
edge_noted a b mark s = end_turned b a mark one_more (end_turned a b mark one_more s)

-- The edges of F below m; an edge's mark is 1 more than its index.
unfoldable pub edges_noted : (a b : ℕ → ℕ) → (ℕ → Bool) → (m : ℕ) → EndSums → EndSums
edges_noted a b F zero s = s
edges_noted a b F (suc e) s =
    let before = edges_noted a b F e s in cond (F e) (edge_noted (a e) (b e) ((count_below e F + 1) % 2 ^ 32) before) before

-- Vertex v comes next, if it has one edge left and there is room.
unfoldable pub leaf_queued : (N : ℕ) (degrees : List ℕ) (v : ℕ) → Queue → Queue
leaf_queued N degrees v q =
    cond (slice_index degrees v == 1 && nat_lt q.count N) (queue_of (slice_set q.order q.count v) (q.count + 1)) q

-- The vertices below n.
unfoldable pub leaves_queued : (N : ℕ) (degrees : List ℕ) (n : ℕ) → Queue → Queue
leaves_queued N degrees zero q = q
leaves_queued N degrees (suc v) q = leaf_queued N degrees v (leaves_queued N degrees v q)

-- Vertex v goes with its edge, which is the one to w, and w may come next.
unfoldable pub leaf_gone : (N v w : ℕ) → Peel → Peel
leaf_gone N v w s =
    let after = end_turned w v (slice_index s.ends.marks v) one_less s.ends in peel_of after (leaf_queued N after.degrees w s.queue)

-- Vertex k of the order goes, if its edge is still there.
unfoldable pub leaf_taken : (N k : ℕ) → Peel → Peel
leaf_taken N k s =
    let v = slice_index_or s.queue.order k 0 in cond (slice_index s.ends.degrees v == 1) (leaf_gone N v (slice_index s.ends.others v) s) s

-- The first k of the order, or all of them where they are fewer.
unfoldable pub leaves_taken : (N k : ℕ) → Peel → Peel
leaves_taken N zero s = s
leaves_taken N (suc k) s =
    let before = leaves_taken N k s in cond (nat_lt k before.queue.count) (leaf_taken N k before) before

-- Before the first is taken: all edges are noted, and the vertices below n with one edge come in the order of their numbers.
unfoldable pub unpeeled : (N n : ℕ) (a b : ℕ → ℕ) → (ℕ → Bool) → (m : ℕ) → Peel
unpeeled N n a b F m =
    let zeros : List ℕ = replicate N 0 in
    let noted = edges_noted a b F m (ends_of zeros zeros zeros) in
    peel_of noted (leaves_queued N noted.degrees n (queue_of zeros 0))

-- And the whole. N are never too few (law `peel_last`).
unfoldable pub peeled : (N n : ℕ) (a b : ℕ → ℕ) → (ℕ → Bool) → (m : ℕ) → Peel
peeled N n a b F m = leaves_taken N N (unpeeled N n a b F m)
