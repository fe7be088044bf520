-- `round` meets its contract: what its calls leave is what the definition makes.
use Rattle.plan_rounds.specs.Laws.Arrays.{arrays_over, arrays_won}
use Rattle.plan_rounds.proofs.round.round.Goals as goal

-- no winner
pub returns-in_default : goal.returns-in_default
returns-in_default c =
    let whole = arrays_over _ _ _ _ _ _ _ _ _ _ c.find_winner-found.ensures.result_value c.find_winner-found.ensures.keys_value c.find_winner-found.ensures.floors_value c.in_default.is in record { result_value = whole.0; flags_value = whole.1 }

-- an edge has won
pub returns : goal.returns
returns c =
    let whole = arrays_won _ _ _ _ _ _ _ _ _ _ c.find_winner-found.ensures.result_value c.find_winner-found.ensures.keys_value c.find_winner-found.ensures.floors_value c.in-Some.is
    c.wake_joined.ensures
    c.at-first.ensures
    c.at-second.ensures
    c.wrapping_add_u64-later.ensures.value
    c.join.ensures.fact
    c.join.ensures.values_value
    c.join.ensures.loads_value in record { result_value = whole.0; flags_value = whole.1 }
