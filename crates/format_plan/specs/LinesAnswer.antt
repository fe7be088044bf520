-- What the answers for the lines say in the terms of the definitions.
use Rattle.std.specs.Prelude.{ℕ, ◌<◌, ◌≡◌, List}
use Rattle.format_read.specs.Step.{Step, found, refused}
use Rattle.format_read.specs.Language.{Each}
use Rattle.format_plan.specs.Lines.{PrintedDual, put_dual, member_numbers}

-- A step without its value.
unfoldable pub forgotten : {A : Type 0} → Step A → Step ℕ
forgotten (found a next) = found 0 next
forgotten (refused number place) = refused number place

-- What a moat line stores: nothing where it is refused.
unfoldable pub dual_stored : Step PrintedDual → (records : List ℕ) (i : ℕ) → List ℕ
dual_stored (found d next) records i = put_dual records i d
dual_stored (refused number place) records i = records

-- What a moat line answers, and what it leaves in the buffer.
pub record DualRead (line : Step PrintedDual) (step : Step ℕ) (i : ℕ) (records records' : List ℕ) : Type 0 where
  pub end : step ≡ forgotten line
  pub stored : records' ≡ dual_stored line records i

-- All are numbers of members.
abbrev pub Members : List ℕ → Type 0
Members vs = Each (λ v. v < member_numbers) vs
