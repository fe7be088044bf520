-- The smallest readers: one byte, fixed bytes, and the end of a text (document 01, 'Survey text and printed plan').
use Rattle.std.specs.Prelude.{ℕ, ◌+◌, Bool, ◌&&◌, cond, List, [], ◌∷◌, eqb, ltb, leb, length, get_or}
use Rattle.format_read.specs.Step.{Step, found, refused}

-- The byte b stands at an offset.
unfoldable pub byte_is : List ℕ → (at b : ℕ) → Bool
byte_is t at b = ltb at (length t) && eqb (get_or t at 0) b

-- Fixed bytes, whose value is 0.
unfoldable pub fixed_at : (bytes t : List ℕ) → (at : ℕ) → Step ℕ
fixed_at [] t at = found 0 at
fixed_at (b ∷ bytes) t at = cond (byte_is t at b) (fixed_at bytes t (at + 1)) (refused 16 at)

-- One byte, as a step.
unfoldable pub byte_step : ℕ → List ℕ → ℕ → Step ℕ
byte_step b t at = cond (byte_is t at b) (found 0 (at + 1)) (refused 16 at)

-- The text ends here.
unfoldable pub end_at : List ℕ → (at : ℕ) → Step ℕ
end_at t at = cond (leb (length t) at) (found 0 at) (refused 16 at)
