-- How refusals are found (document 01, 'Refused surveys and plans'): tests in a fixed order, of which the first that applies gives
-- the number and the place.
use Rattle.std.specs.Prelude.{ℕ, zero, suc, Bool, true, false}
use Rattle.base_limits.specs.declared.Verdict.{Verdict}
use Rattle.base_limits.specs.declared.Verdict.TheVariants.{Fine, Refused}

infixr 20 ◌before◌
-- Refused with this number and place, where the test holds.
unfoldable pub refuse_if : Bool → (number place : ℕ) → Verdict
refuse_if true number place = Refused number place
refuse_if false number place = Fine

-- The first finding; the second only where the first has none.
unfoldable pub ◌before◌ : Verdict → Verdict → Verdict
◌before◌ Fine w = w
◌before◌ (Refused number place) w = Refused number place

-- The finding at the lowest of the numbers below n.
unfoldable pub lowest_below : ℕ → (ℕ → Verdict) → Verdict
lowest_below zero f = Fine
lowest_below (suc n) f = lowest_below n f before f n

-- What an operation answers: a refusal, in which every count is 0, or its result.
pub data Outcome (A : Type 0) : Type 0 where
  refusal : (number place : ℕ) → Outcome A
  answer : A → Outcome A

unfoldable pub outcome : {A : Type 0} → Verdict → A → Outcome A
outcome Fine a = answer a
outcome (Refused number place) a = refusal number place

-- What a lent buffer holds at the end: a refusal writes nothing.
unfoldable pub written : {A : Type 0} → Verdict → (new old : A) → A
written Fine new old = new
written (Refused number place) new old = old
