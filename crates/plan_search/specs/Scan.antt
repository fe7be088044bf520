-- A scan for the winner that passes over edges which cannot win yet. An edge's key is twice the time at which it is reached if both its ends are active from now
-- on, or one of them where the other is alone and idle; time is the sum of the delays so far. Keys that were noted in earlier rounds still bound that time from below (law `keyed_next`), so that an edge whose key is
-- not below twice the time of the best so far needs no look, and the winner is the winner among all edges (law `scan_wins`). This is how the code looks for it; what
-- `grow` answers is said without it, by the rounds of `theory_steiner: Growth`.
use Rattle.std.specs.Prelude.{ℕ, zero, suc, ◌+◌, ◌*◌, ◌-◌, ◌/◌, ◌<◌, ◌≤◌, ◌^◌, ◌≡◌, ◌⊎◌, Bool, true, false, ◌&&◌, ◌||◌, not, cond, List, get_or, set, eqb, ltb}
use Rattle.base_limits.specs.Limits.{max_edges, max_weight}
use Rattle.theory_steiner.specs.Problem.{Problem}
use Rattle.theory_steiner.specs.Growth.{State, active, slack, Delay, Winner, nobody, edge, better, delay}

-- The key of an edge that is not reached as things stand, inside a component or at rest: no sum of the search comes to it.
abbrev pub no_key : ℕ
no_key = 2 ^ 64 - 1

-- The search goes by times below this; twice the sum of two of them is below `no_key`.
abbrev pub time_limit : ℕ
time_limit = 2 ^ 62

-- Vertex v is not active, and a component of its own, under its own number.
unfoldable pub idle_alone : Problem → State → ℕ → Bool
idle_alone p s v = not (active p s.label (s.label v)) && eqb (s.label v) v

-- An edge rests while both its ends are such: it has no delay, and needs no bound until one of them is joined (law `keyed_next`).
unfoldable pub resting : Problem → State → ℕ → Bool
resting p s e = idle_alone p s (p.first e) && idle_alone p s (p.second e)

-- What has to be grown over of an edge until it is reached, if both ends grow from now on. An end that is idle and alone does not grow before it is joined, so that the
-- other end has to come twice as far.
unfoldable pub reach : Problem → State → (e : ℕ) → ℕ
reach p s e = cond (idle_alone p s (p.first e) || idle_alone p s (p.second e)) (2 * slack p s e) (slack p s e)

unfoldable pub key : Problem → State → (time e : ℕ) → ℕ
key p s time e = cond (eqb (s.label (p.first e)) (s.label (p.second e)) || resting p s e) no_key (2 * time + reach p s e)

-- The time that the search goes by: no growth comes to the limit (law `capped_is`), and a later time is taken for the last before it.
unfoldable pub capped_time : (time : ℕ) → ℕ
capped_time time = cond (ltb time time_limit) time (time_limit - 1)

-- Twice the time of the best so far.
unfoldable pub limit_of : (time : ℕ) → Winner → ℕ
limit_of time nobody = no_key
limit_of time (edge e d) = cond (ltb d time_limit) (2 * (time + d)) no_key

-- The best of the edges so far, and the keys as noted.
pub record Scan : Type 0 where
  pub best : Winner
  pub keys : List ℕ

-- One edge more: it is looked at if its key is below the limit.
unfoldable pub looked : (delays : ℕ → Delay) (fresh : ℕ → ℕ) (time : ℕ) → Scan → ℕ → Scan
looked delays fresh time s e =
    cond (ltb (get_or s.keys e 0) (limit_of time s.best)) (record { best = better s.best e (delays e); keys = set s.keys e (fresh e) }) s

unfoldable pub scan : (delays : ℕ → Delay) (fresh : ℕ → ℕ) (time : ℕ) (keys : List ℕ) → ℕ → Scan
scan delays fresh time keys zero = record { best = nobody; keys = keys }
scan delays fresh time keys (suc e) = looked delays fresh time (scan delays fresh time keys e) e

-- So many edges more, from edge `from` on.
unfoldable pub scan_on : (delays : ℕ → Delay) (fresh : ℕ → ℕ) (time : ℕ) → Scan → (from count : ℕ) → Scan
scan_on delays fresh time s from zero = s
scan_on delays fresh time s from (suc k) = looked delays fresh time (scan_on delays fresh time s from k) (from + k)

-- The scan of a round.
unfoldable pub scan_of : Problem → State → (time : ℕ) → (keys : List ℕ) → Scan
scan_of p s time keys = scan (delay p s) (key p s time) time keys p.edges

-- Keys that bound from below where an edge does not rest, and a time within what so many rounds can take.
pub record Keyed (p : Problem) (s : State) (time : ℕ) (keys : List ℕ) : Type 0 where
  pub early : time ≤ s.rounds * (2 * max_weight)
  pub low : (e : ℕ) → e < p.edges → (s.label (p.first e) ≡ s.label (p.second e) → ⊥) → resting p s e ≡ false → get_or keys e 0 ≤ 2 * time + reach p s e

-- Keys once the edges at components x and y, which a round joins, are woken: they bound from below where an edge does not rest, and those of edges that have x or y as an end bound also
-- where both ends grow from now on.
pub record Woken (p : Problem) (s : State) (time x y : ℕ) (woken : List ℕ) : Type 0 where
  pub awake : (e : ℕ) → e < p.edges → (s.label (p.first e) ≡ s.label (p.second e) → ⊥) → resting p s e ≡ false → get_or woken e 0 ≤ 2 * time + reach p s e
  pub first_up : (e : ℕ) → e < p.edges → idle_alone p s (p.first e) ≡ true → (p.first e ≡ x) ⊎ (p.first e ≡ y) → get_or woken e 0 ≤ 2 * time + slack p s e
  pub second_up : (e : ℕ) → e < p.edges → idle_alone p s (p.second e) ≡ true → (p.second e ≡ x) ⊎ (p.second e ≡ y) → get_or woken e 0 ≤ 2 * time + slack p s e

-- ---- blocks

-- Edges come in blocks, and a block's floor is not above any of its keys (law `passes_scan`: blocks whose floors say so are passed over whole).
abbrev pub block_edges : ℕ
block_edges = 8

-- The edges of block b, where m are all.
unfoldable pub block_size : (m b : ℕ) → ℕ
block_size m b = cond (ltb (m - block_edges * b) block_edges) (m - block_edges * b) block_edges

-- One block more than the whole ones: it holds what is left, if anything is.
unfoldable pub blocks_of : (m : ℕ) → ℕ
blocks_of m = m / block_edges + 1

-- Blocks, at most.
abbrev pub max_blocks : ℕ
max_blocks = max_edges / block_edges + 1

-- The lowest of so many keys.
unfoldable pub lowest_key : (keys : List ℕ) (from count : ℕ) → ℕ
lowest_key keys from zero = no_key
lowest_key keys from (suc k) = let x = lowest_key keys from k in let y = get_or keys (from + k) 0 in cond (ltb y x) y x

-- The first of so many blocks from block b on whose floor is below the limit; where none is, the block behind them.
unfoldable pub next_block : (floors : List ℕ) (limit b count : ℕ) → ℕ
next_block floors limit b zero = b
next_block floors limit b (suc n) = cond (ltb (get_or floors b 0) limit) b (next_block floors limit (suc b) n)

-- What the blocks so far leave.
pub record Pass : Type 0 where
  pub scanned : Scan
  pub floors : List ℕ

unfoldable pub block_pass : (delays : ℕ → Delay) (fresh : ℕ → ℕ) (time m : ℕ) → Pass → ℕ → Pass
block_pass delays fresh time m s b =
    let t = scan_on delays fresh time s.scanned (block_edges * b) (block_size m b) in
    cond (ltb (get_or s.floors b 0) (limit_of time s.scanned.best))
    (record { scanned = t; floors = set s.floors b (lowest_key t.keys (block_edges * b) (block_size m b)) })
    s

unfoldable pub passes_below : (delays : ℕ → Delay) (fresh : ℕ → ℕ) (time m : ℕ) (keys floors : List ℕ) → ℕ → Pass
passes_below delays fresh time m keys floors zero = record { scanned = record { best = nobody; keys = keys }; floors = floors }
passes_below delays fresh time m keys floors (suc b) = block_pass delays fresh time m (passes_below delays fresh time m keys floors b) b

-- All blocks of a round.
unfoldable pub pass_of : Problem → State → (time : ℕ) → (keys floors : List ℕ) → Pass
pass_of p s time keys floors = passes_below (delay p s) (key p s time) time p.edges keys floors (blocks_of p.edges)

-- No floor of a block is above its keys.
pub record Floored (m : ℕ) (keys floors : List ℕ) : Type 0 where
  pub low : (e : ℕ) → e < m → get_or floors (e / block_edges) 0 ≤ get_or keys e 0
