-- The first number that passes a test.
use Rattle.std.specs.Prelude.{ℕ, zero, suc, Bool, cond}
use Rattle.base_finite.specs.Below.{any_below}

-- The lowest of the numbers below n that passes; n where none does.
unfoldable pub first_below : ℕ → (ℕ → Bool) → ℕ
first_below zero t = 0
first_below (suc n) t = cond (any_below n t) (first_below n t) (cond (t n) n (suc n))
