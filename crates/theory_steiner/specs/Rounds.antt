-- The figures of the rounds (document 01, 'How moats grow'): how many a growth takes, and the bound as a sum over them.
use Rattle.std.specs.Prelude.{ℕ, ◌*◌, ◌<◌, ◌≡◌}
use Rattle.base_finite.specs.Below.{sum_below, count_below}
use Rattle.theory_steiner.specs.Problem.{Problem}
use Rattle.theory_steiner.specs.Growth.{State, active, numbers, Winner, nobody, edge, winner, state_at, grown}

-- How many components are active.
unfoldable pub active_count : Problem → State → ℕ
active_count p s = count_below (numbers p s) (active p s.label)

-- The delay of a round by its winner; 0 where there is none.
unfoldable pub delay_or_zero : Winner → ℕ
delay_or_zero nobody = 0
delay_or_zero (edge e d) = d

-- That of the round after r rounds.
unfoldable pub round_delay : Problem → ℕ → ℕ
round_delay p r = delay_or_zero (winner p (state_at p r))

-- Document 01's other figure for the bound: each of the first r rounds gives its wait times how many components grow in it.
unfoldable pub bound_of_rounds : Problem → ℕ → ℕ
bound_of_rounds p r = sum_below r (λ i. round_delay p i * active_count p (state_at p i))

-- Growth takes r rounds: each of them has a winner, after them there is none, and the state is the one that growth ends in.
pub record TakesRounds (p : Problem) (r : ℕ) : Type 0 where
  pub won : (i : ℕ) → i < r → winner p (state_at p i) ≡ nobody → ⊥
  pub ended : winner p (state_at p r) ≡ nobody
  pub whole : state_at p r ≡ grown p
