-- How far the plan may be above the cheapest set of tracks, in tenths of a percent of the floor, rounded up; 0 where the floor is 0, for then the plan costs nothing.
use Rattle.std.specs.Prelude.{ℕ, ◌+◌, ◌*◌, ◌-◌, ◌/◌, cond, eqb}

-- tenths of a percent of the whole
abbrev pub tenths : ℕ
tenths = 1000

unfoldable pub gap_of : (floor cost : ℕ) → ℕ
gap_of floor cost = cond (eqb floor 0) 0 ((tenths * (cost - floor) + (floor - 1)) / floor)
