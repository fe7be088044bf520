-- What the contracts of print calls say of the answer, in this paper's numbers: `answer_of` a verdict is the answer whose outcome is the verdict's, and no other is.
use Rattle.std.specs.Prelude.{ℕ, ◌≡◌, refl, List, length}
use Rattle.std.proofs.Common.{arith, ap}
use Rattle.base_limits.specs.Verdict.{outcome}
use Rattle.base_limits.specs.declared.Verdict.{Verdict}
use Rattle.base_limits.specs.declared.Verdict.TheVariants.{Fine, Refused}
use Rattle.format_print.specs.declared.Printed.{Printed}
use Rattle.format_print.specs.declared.Printed.TheVariants.{Length}
use Rattle.format_print.specs.declared.Printed.TheVariants.{Refused as RefusedPrint}
use Rattle.format_print.specs.Print.{answer_of}
use Rattle.format_print.specs.Answer.{printed_outcome}

pub printed_outcome_law : (v : Verdict) (text : List ℕ) → printed_outcome (answer_of v text) ≡ outcome v (length text)
unfolding printed_outcome answer_of outcome
printed_outcome_law Fine text = refl
printed_outcome_law (Refused number place) text = refl

-- The outcome decides the answer.
pub outcome_printed : (v : Verdict) (text : List ℕ) (r : Printed) → printed_outcome r ≡ outcome v (length text) → r ≡ answer_of v text
unfolding printed_outcome answer_of outcome
outcome_printed Fine text (Length n) h = let e : n ≡ length text = cc in ap Length e
outcome_printed Fine text (RefusedPrint number place) h = let z : ◌≡◌ {A = ℕ} 0 1 = cc in absurd (omega arith)
outcome_printed (Refused number place) text (Length n) h = let z : ◌≡◌ {A = ℕ} 0 1 = cc in absurd (omega arith)
outcome_printed (Refused number place) text (RefusedPrint a b) h = let e : a ≡ number = cc in let f : b ≡ place = cc in (λ i. RefusedPrint (e i) (f i))
