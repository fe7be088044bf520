-- Bytes that stand at an offset of a text.
use Rattle.std.specs.Prelude.{ℕ, ◌+◌, ◌≤◌, List, ◌++◌, ◌≡◌, length, take}

pub record Stands (t : List ℕ) (at : ℕ) (w : List ℕ) : Type 0 where
  pub is : take (at + length w) t ≡ take at t ++ w
  pub fits : at + length w ≤ length t
