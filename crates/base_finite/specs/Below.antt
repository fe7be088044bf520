-- Sums, counts and searches over the numbers below a bound. The step stands at the top, so that a loop that runs upwards
-- keeps `.. i f` while it runs.
use Rattle.std.specs.Prelude.{ℕ, zero, suc, ◌+◌, Bool, true, false, ◌&&◌, ◌||◌, cond, [], List, ◌∷◌, ◌++◌}

-- The number, where the test holds, and otherwise 0.
unfoldable pub counted : Bool → ℕ → ℕ
counted true x = x
counted false x = 0

-- f 0 + .. + f (n - 1)
unfoldable pub sum_below : ℕ → (ℕ → ℕ) → ℕ
sum_below zero f = 0
sum_below (suc n) f = sum_below n f + f n

-- How many of the numbers below n pass the test.
unfoldable pub count_below : ℕ → (ℕ → Bool) → ℕ
count_below n t = sum_below n (λ i. counted (t i) 1)

-- Some number below n passes the test.
unfoldable pub any_below : ℕ → (ℕ → Bool) → Bool
any_below zero t = false
any_below (suc n) t = any_below n t || t n

-- Every number below n passes the test.
unfoldable pub all_below : ℕ → (ℕ → Bool) → Bool
all_below zero t = true
all_below (suc n) t = all_below n t && t n

-- The numbers below n that pass the test, rising.
unfoldable pub those_below : ℕ → (ℕ → Bool) → List ℕ
those_below zero t = []
those_below (suc n) t = those_below n t ++ cond (t n) (n ∷ []) []

-- f 0, .., f (n - 1)
unfoldable pub tabulate {ℓ} : {A : Type ℓ} → ℕ → (ℕ → A) → List A
tabulate zero f = []
tabulate (suc n) f = tabulate n f ++ (f n ∷ [])

-- The element at i, or what f says past the end.
unfoldable pub lookup {ℓ} : {A : Type ℓ} → List A → ℕ → (ℕ → A) → ℕ → A
lookup [] i f j = f j
lookup (x ∷ xs) zero f j = x
lookup (x ∷ xs) (suc i) f j = lookup xs i f j

-- The function f itself (law `memo_is`), with its values below n computed once.
unfoldable pub memo {ℓ} : {A : Type ℓ} → ℕ → (ℕ → A) → ℕ → A
memo n f = let l = tabulate n f in λ i. lookup l i f i
