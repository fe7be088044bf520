-- Lines of a text, read one after another up to the first refusal.
use Rattle.std.specs.Prelude.{ℕ, zero, suc, ◌+◌, List, [], ◌∷◌, ◌++◌}
use Rattle.format_read.specs.Step.{Step, found, refused, ◌then◌}

-- Lines or items one after another: the values of those before the first refusal, and where they end, with a state that they leave.
pub record Lines (S A : Type 0) : Type 0 where
  pub values : List A
  pub end : Step S

-- A value and those behind it; after a refusal none is read.
unfoldable pub following : {S A : Type 0} → Step A → (A → ℕ → Lines S A) → Lines S A
following (found a next) rest = let r = rest a next in record { values = a ∷ r.values; end = r.end }
following (refused number place) rest = record { values = []; end = refused number place }

-- count lines from offset at on, where `line i` reads line i.
unfoldable pub lines_from : {A : Type 0} → (line : ℕ → ℕ → Step A) → (count i at : ℕ) → Lines ℕ A
lines_from line zero i at = record { values = []; end = found 0 at }
lines_from line (suc count) i at = following (line i at) (λ a next. lines_from line count (i + 1) next)

-- Lines that follow: none where what stands before them is refused.
unfoldable pub lines_after : {S T A : Type 0} → Step S → (ℕ → Lines T A) → Lines T A
lines_after (found a next) rest = rest next
lines_after (refused number place) rest = record { values = []; end = refused number place }

-- The texts of the members of a list, one after another.
unfoldable pub text_of : {A : Type 0} → (A → List ℕ) → List A → List ℕ
text_of f [] = []
text_of f (a ∷ rest) = f a ++ text_of f rest

-- Lines one after another, as a step that gives all their values.
unfoldable pub whole : {S A : Type 0} → Lines S A → Step (List A)
whole l = l.end then λ z p. found l.values p
