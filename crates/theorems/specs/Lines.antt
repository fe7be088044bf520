-- How long the lines of a text are (document 01, 'Survey text and printed plan'; document 02, No. 8: 2,048 bytes hold every printed line). Laws/Lines proves it of plans, surveys and
-- refusals; a reason's route may be longer, and has a length of its own.
use Rattle.std.specs.Prelude.{ℕ, ◌+◌, ◌*◌, ◌≤◌, ◌≡◌, List, [], ◌∷◌}
use Rattle.base_limits.specs.Limits.{max_route}
use Rattle.format_write.specs.Key.{newline}

-- No line has more than so many bytes, the one that ends it counted; k bytes of the first line stand before the text.
pub data LinesFrom (room : ℕ) : (k : ℕ) → List ℕ → Type 0 where
  text_end : {k : ℕ} → k ≤ room → LinesFrom room k []
  line_end : {k b : ℕ} {t : List ℕ} → b ≡ newline → k + 1 ≤ room → LinesFrom room 0 t → LinesFrom room k (b ∷ t)
  in_line : {k b : ℕ} {t : List ℕ} → (b ≡ newline → ⊥) → LinesFrom room (k + 1) t → LinesFrom room k (b ∷ t)

abbrev pub LinesWithin : (room : ℕ) → List ℕ → Type 0
LinesWithin room t = LinesFrom room 0 t

-- Bytes of the longest line of a reason: 6 of its key, and for each track of the longest route four digits and what follows them.
abbrev pub longest_reason_line : ℕ
longest_reason_line = 6 + 5 * max_route
