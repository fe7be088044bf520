-- Laws of steps: what follows a value, a refusal and a test.
use Rattle.std.specs.Prelude.{ℕ, List, ◌≡◌, refl}
use Rattle.std.proofs.Common.{arith, ap}
use Rattle.base_limits.specs.declared.Verdict.{Verdict}
use Rattle.base_limits.specs.declared.Verdict.TheVariants.{Fine, Refused}
use Rattle.format_read.specs.Step.{Step, found, refused, ◌then◌, checked, stored_if}

pub then_found : {A B : Type 0} {s : Step A} {a : A} {next : ℕ} (k : A → ℕ → Step B) → s ≡ found a next → (s then k) ≡ k a next
unfolding ◌then◌
then_found k e = ap (λ s. s then k) e

pub then_refused : {A B : Type 0} {s : Step A} {number place : ℕ} (k : A → ℕ → Step B) → s ≡ refused number place → (s then k) ≡ refused number place
unfolding ◌then◌
then_refused k e = ap (λ s. s then k) e

-- What is read after a step is read after its value.
pub then_value : {A B : Type 0} (s : Step A) (k : A → ℕ → Step B) {b : B} {next : ℕ} → (s then k) ≡ found b next → (a : A) × (p : ℕ) × (s ≡ found a p) × (k a p ≡ found b next)
unfolding ◌then◌
then_value (found a p) k e = (a, p, refl, e)
then_value (refused n p) k e = let z : ◌≡◌ {A = ℕ} 0 1 = cc in absurd (omega arith)

-- Steps one after another, taken together either way.
pub then_then : {A B C : Type 0} (s : Step A) (f : A → ℕ → Step B) (g : B → ℕ → Step C) → ((s then f) then g) ≡ (s then λ a p. f a p then g)
unfolding ◌then◌
then_then (found a p) f g = refl
then_then (refused n p) f g = refl

-- How a step after a step is refused: in the first, or after a value of the first.
pub data Stops {A B : Type 0} (s : Step A) (k : A → ℕ → Step B) (n p : ℕ) : Type 0 where
  early : s ≡ refused n p → Stops s k n p
  late : (a : A) (q : ℕ) → s ≡ found a q → k a q ≡ refused n p → Stops s k n p

pub then_stops : {A B : Type 0} (s : Step A) (k : A → ℕ → Step B) {n p : ℕ} → (s then k) ≡ refused n p → Stops s k n p
unfolding ◌then◌
then_stops (found a q) k e = late a q refl e
then_stops {A} {B} (refused i j) k {n} {p} e = early (same_refusal e)
  where
    same_refusal : ◌≡◌ {A = Step B} (refused i j) (refused n p) → ◌≡◌ {A = Step A} (refused i j) (refused n p)
    same_refusal e = let a : i ≡ n = cc in let b : j ≡ p = cc in cc

pub checked_fine : {A : Type 0} {b : A} {q : ℕ} (w : Verdict) (a : A) (p : ℕ) → checked w a p ≡ found b q → w ≡ Fine
unfolding checked
checked_fine Fine a p e = refl
checked_fine (Refused n r) a p e = let z : ◌≡◌ {A = ℕ} 0 1 = cc in absurd (omega arith)

pub checked_value : {A : Type 0} {b : A} {q : ℕ} (w : Verdict) (a : A) (p : ℕ) → checked w a p ≡ found b q → a ≡ b
unfolding checked
checked_value Fine a p e = cc
checked_value (Refused n r) a p e = let z : ◌≡◌ {A = ℕ} 0 1 = cc in absurd (omega arith)

pub checked_next : {A : Type 0} {b : A} {q : ℕ} (w : Verdict) (a : A) (p : ℕ) → checked w a p ≡ found b q → p ≡ q
unfolding checked
checked_next Fine a p e = cc
checked_next (Refused n r) a p e = let z : ◌≡◌ {A = ℕ} 0 1 = cc in absurd (omega arith)

-- A buffer after a step, by the step.
pub stored_found : {A : Type 0} {s : Step A} {a : A} {next : ℕ} (new old : List ℕ) → s ≡ found a next → stored_if s new old ≡ new
unfolding stored_if
stored_found new old e = ap (λ s. stored_if s new old) e

pub stored_refused : {A : Type 0} {s : Step A} {number place : ℕ} (new old : List ℕ) → s ≡ refused number place → stored_if s new old ≡ old
unfolding stored_if
stored_refused new old e = ap (λ s. stored_if s new old) e
