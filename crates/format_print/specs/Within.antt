-- Plans within the limits of document 01 ('What a plan holds'), of which `plan_room` bytes hold each.
use Rattle.std.specs.Prelude.{ℕ, ◌/◌, ◌^◌, ◌≤◌, ◌<◌, Bool, ◌&&◌, List, length, leb}
use Rattle.base_limits.specs.Limits.{max_edges, record_bytes, records_room, plan_room_for}
use Rattle.format_record.specs.Bits.{Bytes}

-- The counts are 64-bit numbers, and marks and records are no more than planning can make.
pub record PlanWithin (terminals cost bound rounds : ℕ) (marks records : List ℕ) : Type 0 where
  pub terminals_fit : terminals < 2 ^ 64
  pub cost_fits : cost < 2 ^ 64
  pub bound_fits : bound < 2 ^ 64
  pub rounds_fit : rounds < 2 ^ 64
  pub marks_few : length marks ≤ max_edges
  pub records_few : length records ≤ records_room
  pub records_bytes : Bytes records

-- Marks and bytes of records are so few, and the room so large, that it holds every such plan.
unfoldable pub holds_all : (marks records room : ℕ) → Bool
holds_all marks records room = leb marks max_edges && leb records records_room && leb (plan_room_for marks (records / record_bytes)) room
