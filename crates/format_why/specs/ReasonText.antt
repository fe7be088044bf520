-- The text of a reason (document 02, No. 3: why a track is on the sheet): the track and its mark, then what the mark has to say.
use Rattle.std.specs.Prelude.{ℕ, cond, List, [], ◌∷◌, ◌++◌, eqb}
use Rattle.format_write.specs.Key.{track_key, mark_key, group_key, from_key, to_key, route_key, round_key, newline}
use Rattle.format_write.specs.Text.{line_of, listed}

-- The tracks of a route in walking order.
unfoldable pub route_line : List ℕ → List ℕ
route_line route = route_key ++ listed route ++ (newline ∷ [])

-- A kept track: the group that is parted without it, the two members, their route.
unfoldable pub kept_text : (group low high : ℕ) → (route : List ℕ) → List ℕ
kept_text group low high route = line_of group_key group ++ line_of from_key low ++ line_of to_key high ++ route_line route

-- By the mark: 2 is kept, 0 not picked, with the round after which its ends were joined (0: never); a dropped track has no more to say.
unfoldable pub mark_text : (mark group low high round : ℕ) → (route : List ℕ) → List ℕ
mark_text mark group low high round route = cond (eqb mark 2) (kept_text group low high route) (cond (eqb mark 0) (line_of round_key round) [])

unfoldable pub reason_text : (track mark group low high round : ℕ) → (route : List ℕ) → List ℕ
reason_text track mark group low high round route = line_of track_key track ++ line_of mark_key mark ++ mark_text mark group low high round route
