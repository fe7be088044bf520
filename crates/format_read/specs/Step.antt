-- What reading at an offset of a text finds: a value with the next offset, or a refusal. 'The earliest finding wins' (document 01,
-- 'Survey text and printed plan'): a step after a refusal is not taken.
use Rattle.std.specs.Prelude.{ℕ, List}
use Rattle.base_limits.specs.declared.Verdict.{Verdict}
use Rattle.base_limits.specs.declared.Verdict.TheVariants.{Fine, Refused}

infixr 20 ◌then◌
pub data Step (A : Type 0) : Type 0 where
  found : (value : A) (next : ℕ) → Step A
  refused : (number place : ℕ) → Step A

unfoldable pub ◌then◌ : {A B : Type 0} → Step A → (A → ℕ → Step B) → Step B
◌then◌ (found a next) k = k a next
◌then◌ (refused number place) k = refused number place

-- A value that a test has passed on, or the test's refusal.
unfoldable pub checked : {A : Type 0} → Verdict → A → (next : ℕ) → Step A
checked Fine a next = found a next
checked (Refused number place) a next = refused number place

-- A refusal, whatever value was read for; a value leaves nothing that may follow it.
unfoldable pub stopped : {A B : Type 0} → Step A → Step B
stopped (found a next) = refused 16 next
stopped (refused number place) = refused number place

-- What a buffer holds after a step: where that is refused, what it held.
unfoldable pub stored_if : {A : Type 0} → Step A → (new old : List ℕ) → List ℕ
stored_if (found a next) new old = new
stored_if (refused number place) new old = old
