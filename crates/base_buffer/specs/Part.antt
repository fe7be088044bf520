-- How much of a buffer is printed.
use Rattle.std.specs.Prelude.{ℕ, cond, ltb}

-- As much as is wanted of a buffer, or all of it.
unfoldable pub at_most : (wanted room : ℕ) → ℕ
at_most wanted room = cond (ltb room wanted) room wanted
