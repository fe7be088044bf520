-- The search over tables: what it reads from arrays (laws of `plan_rounds` say that it is what the definition reads).
use Rattle.std.specs.Prelude.{ℕ, ◌+◌, ◌*◌, Bool, ◌&&◌, ◌||◌, not, cond, List, get_or, length, eqb}
use Rattle.theory_steiner.specs.Growth.{Delay, Winner}
use Rattle.plan_search.specs.declared.delay.End.{End}
use Rattle.plan_search.specs.Between.{vertex_end, slack_between, delay_between}
use Rattle.plan_search.specs.Scan.{no_key, Scan, scan_on, Pass, passes_below}

pub record Tables : Type 0 where
  pub firsts : List ℕ
  pub seconds : List ℕ
  pub weights : List ℕ
  -- the component number of each vertex
  pub labels : List ℕ
  -- what is held for the load of each vertex
  pub loads : List ℕ
  -- 1 for each active component number
  pub flags : List ℕ

abbrev pub tables_from : (firsts seconds weights labels loads flags : List ℕ) → Tables
tables_from firsts seconds weights labels loads flags =
    record { firsts = firsts; seconds = seconds; weights = weights; labels = labels; loads = loads; flags = flags }

-- The tables that six lent buffers held when the call began.
abbrev pub tables_in : (firsts seconds weights labels loads flags : List ℕ) → Tables
tables_in firsts seconds weights labels loads flags =
    tables_from firsts seconds weights labels loads flags

-- The ends of edge e at this time.
unfoldable pub first_by : Tables → (time e : ℕ) → End
first_by t time e = vertex_end t.labels t.loads t.flags time (get_or t.firsts e 0)

unfoldable pub second_by : Tables → (time e : ℕ) → End
second_by t time e = vertex_end t.labels t.loads t.flags time (get_or t.seconds e 0)

unfoldable pub delay_by : Tables → (time e : ℕ) → Delay
delay_by t time e = delay_between (first_by t time e) (second_by t time e) (get_or t.weights e 0)

-- The end at vertex v is not active, and a component of its own.
unfoldable pub alone_at : (v : ℕ) → End → Bool
alone_at v x = not (eqb x.flag 1) && eqb x.label v

-- An edge between vertices u and v rests.
unfoldable pub rests_between : (u v : ℕ) → (a b : End) → Bool
rests_between u v a b = alone_at u a && alone_at v b

-- What has to be grown over of an edge of which so much remains.
unfoldable pub reach_between : (u v : ℕ) → (a b : End) → (slack : ℕ) → ℕ
reach_between u v a b slack = cond (alone_at u a || alone_at v b) (2 * slack) slack

-- The key of an edge of weight w between the ends at two vertices.
unfoldable pub key_between : (time u v : ℕ) → (a b : End) → (w : ℕ) → ℕ
key_between time u v a b w = cond (eqb a.label b.label || rests_between u v a b) no_key (2 * time + reach_between u v a b (slack_between a b w))

unfoldable pub key_by : Tables → (time e : ℕ) → ℕ
key_by t time e = key_between time (get_or t.firsts e 0) (get_or t.seconds e 0) (first_by t time e) (second_by t time e) (get_or t.weights e 0)

-- So many edges more, and so many blocks, over the tables.
unfoldable pub on_by : Tables → (time : ℕ) → Scan → (from count : ℕ) → Scan
on_by t time s from count = scan_on (delay_by t time) (key_by t time) time s from count

unfoldable pub pass_by : Tables → (time : ℕ) → (keys floors : List ℕ) → ℕ → Pass
pass_by t time keys floors b = passes_below (delay_by t time) (key_by t time) time (length t.firsts) keys floors b

-- A best and keys to go on from.
abbrev pub scan_from : Winner → (keys : List ℕ) → Scan
scan_from best keys = record { best = best; keys = keys }
