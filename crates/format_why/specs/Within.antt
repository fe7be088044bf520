-- Reasons within the limits of document 01 ('What a plan holds'), of which `why_room` bytes hold each.
use Rattle.std.specs.Prelude.{ℕ, ◌^◌, ◌≤◌, ◌<◌, List, length, get_or}
use Rattle.base_limits.specs.Limits.{max_edges, max_route}

-- The numbers have 64 bits, and the route is one that a survey can have.
pub record ReasonWithin (track mark group low high round : ℕ) (route : List ℕ) : Type 0 where
  pub track_fits : track < 2 ^ 64
  pub mark_fits : mark < 2 ^ 64
  pub group_fits : group < 2 ^ 64
  pub low_fits : low < 2 ^ 64
  pub high_fits : high < 2 ^ 64
  pub round_fits : round < 2 ^ 64
  pub route_short : length route ≤ max_route
  pub route_tracks : (i : ℕ) → get_or route i 0 < max_edges
