-- What loops that store at rising places leave in a buffer.
use Rattle.std.specs.Prelude.{ℕ, zero, suc, [], List, ◌∷◌}

-- Each of the first i elements is replaced by what f makes of its place and of itself.
unfoldable pub remade : (ℕ → ℕ → ℕ) → ℕ → List ℕ → List ℕ
remade f zero l = l
remade f (suc i) [] = []
remade f (suc i) (x ∷ l) = f 0 x ∷ remade (λ k. f (suc k)) i l
