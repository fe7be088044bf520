-- A floor under the cost of every set of tracks that joins every group, with the figures of the plan: the ascent's, or half the plan's bound where that is more.
use Rattle.std.specs.Prelude.{ℕ, ◌+◌, ◌/◌, cond, ltb}
use Rattle.base_limits.specs.Verdict.{Outcome, refusal, answer, outcome}
use Rattle.survey_core.specs.Survey.{Survey, lists_of, problem_of}
use Rattle.plan_rule.specs.Plan.{plan_of}
use Rattle.plan_rule.specs.Figures.{figures_refusal}
use Rattle.floor_rule.specs.Ascent.{ascent_floor}
use Rattle.floor_rule.specs.Number.{numbered_groups}
use Rattle.floor_rule.specs.declared.Floored.{Floored}
use Rattle.floor_rule.specs.declared.Floored.TheVariants.{Finished, Refused}

unfoldable pub greater : ℕ → ℕ → ℕ
greater x y = cond (ltb x y) y x

unfoldable pub ascent_of : Survey → ℕ
ascent_of s = ascent_floor (numbered_groups (lists_of s)) s.firsts s.seconds s.weights

-- The bound counts half units: costs are whole, so its half is rounded up.
unfoldable pub half_up : ℕ → ℕ
half_up bound = (bound + 1) / 2

unfoldable pub floor_of : Survey → ℕ
floor_of s = greater (ascent_of s) (half_up (plan_of (problem_of s)).bound)

-- What the call answers: the floor, and the plan's k, cost and bound.
pub record FloorCounts : Type 0 where
  pub floor : ℕ
  pub terminals : ℕ
  pub cost : ℕ
  pub bound : ℕ

unfoldable pub floor_counts_of : Survey → FloorCounts
floor_counts_of s =
    let p = plan_of (problem_of s) in
    record { floor = floor_of s; terminals = p.terminals; cost = p.cost; bound = p.bound }

-- Planning's refusals but 7; with a group that cannot be joined there is no floor.
unfoldable pub flooring : Survey → Outcome FloorCounts
flooring s = outcome (figures_refusal s) (floor_counts_of s)

-- What an answer says in the papers' numbers.
unfoldable pub floored_outcome : Floored → Outcome FloorCounts
floored_outcome (Finished floor terminals cost bound) =
    answer (record { floor = floor; terminals = terminals; cost = cost; bound = bound })
floored_outcome (Refused number place) = refusal number place
