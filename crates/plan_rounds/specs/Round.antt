-- A round over arrays, whatever they hold: the search, the waking of edges, and two components that become one. For the arrays of a growth it is a round of the definition
-- (laws `round_over`, `round_won`).
use Rattle.std.specs.Prelude.{ℕ, ◌+◌, ◌%◌, ◌^◌, List, length, slice_index_or}
use Rattle.base_finite.specs.Below.{counted}
use Rattle.theory_steiner.specs.Growth.{Winner, nobody, edge}
use Rattle.plan_search.specs.Scan.{capped_time, Pass, blocks_of}
use Rattle.plan_search.specs.Tables.{Tables, pass_by}
use Rattle.plan_wake.specs.Wake.{notes_from, woken_by}
use Rattle.plan_active.specs.Flags.{joined_active, relabelled_first, merged_flags}
use Rattle.plan_rounds.specs.Tables.{settled_at, turned_to}

-- The arrays that a round changes; those of the picks are noted behind it.
pub record RoundArrays : Type 0 where
  pub labels : List ℕ
  pub loads : List ℕ
  pub values : List ℕ
  pub keys : List ℕ
  pub floors : List ℕ
  pub flags : List ℕ

abbrev pub round_arrays_from : (labels loads values keys floors flags : List ℕ) → RoundArrays
round_arrays_from labels loads values keys floors flags =
    record { labels = labels; loads = loads; values = values; keys = keys; floors = floors; flags = flags }

-- Those that six lent buffers hold when the call ends.
abbrev pub new_round_arrays : (labels loads values keys floors flags : List ℕ) → RoundArrays
new_round_arrays labels loads values keys floors flags =
    round_arrays_from labels loads values keys floors flags

-- The search of a round: its winner, and the keys and floors that it leaves.
abbrev pub search_by : Tables → (time : ℕ) → (keys floors : List ℕ) → Pass
search_by t time keys floors = pass_by t (capped_time time) keys floors (blocks_of (length t.firsts))

-- What the search leaves; and where edge e has won after a delay of d, the edges at the two components are woken and the components become z.
unfoldable pub round_by : Tables → (mates members : List ℕ) → (count n z time : ℕ) → (values : List ℕ) → Pass → Winner → RoundArrays
round_by t mates members count n z time values pass nobody =
    round_arrays_from t.labels t.loads values pass.scanned.keys pass.floors t.flags
round_by t mates members count n z time values pass (edge e d) =
    let u = slice_index_or t.firsts e 0 in
    let v = slice_index_or t.seconds e 0 in
    let x = slice_index_or t.labels u 0 in
    let y = slice_index_or t.labels v 0 in
    let later = (time + d) % 2 ^ 64 in
    let flag = counted (joined_active mates t.labels members count u v) 1 in
    let flags = merged_flags x y z flag t.flags in
    let woken = woken_by t time n e (notes_from pass.scanned.keys pass.floors) in
    round_arrays_from
    (relabelled_first n x y z t.labels)
    (turned_to flag t.flags t.labels n later y (turned_to flag t.flags t.labels n later x t.loads))
    (settled_at flags later z (settled_at t.flags later y (settled_at t.flags later x values)))
    woken.keys
    woken.floors
    flags
