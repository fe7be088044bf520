-- How checking a text ends: refused, passed without room for the counts, or passed.
use Rattle.std.specs.Prelude.{ℕ, ◌+◌, ◌*◌, ◌<◌, ◌≤◌, ◌≡◌, refl, List, [], ◌∷◌, length}
use Rattle.std.proofs.Common.{ap, ◌∙◌}
use Rattle.std.proofs.Math.Path.{sym}
use Rattle.std.proofs.lemmas.List.Edits.{sets}
use borrow.Author.Tests.{lt-ltb, le-ltb}
use Rattle.base_limits.specs.Verdict.{Outcome, refuse_if, outcome}
use Rattle.check_rule.specs.Check.{Checked}
use Rattle.check_printed.specs.Verify.{verifying}
use Rattle.check_printed.specs.Answer.{verified_outcome}
use Rattle.check_printed.specs.declared.Verified.{Verified}
use Rattle.check_printed.specs.declared.Verified.TheVariants.{Passed, Refused}
use Rattle.api_code.specs.Code.{place_unit, code_of, capped, verdict_of, counts_for, room_for}
use Rattle.api_check.specs.Call.{check_figures, check_figures_of}
use Rattle.api_check.specs.VerifyCall.{verify_call}

-- What an answer is with counts of this length.
abbrev ending : Verified → ℕ → Outcome Checked
ending answer long = room_for check_figures long (verified_outcome answer)

-- A code and counts that an outcome has.
abbrev Ends : Outcome Checked → (counts after : List ℕ) → (code : ℕ) → Type 0
Ends o counts after code = (code ≡ capped (code_of (verdict_of o))) × (after ≡ counts_for o check_figures_of counts)

module _ {answer : Verified} (counts : List ℕ) where
  pub verified_refused : {number place code : ℕ} → answer ≡ Refused number place → code ≡ capped (number + place_unit * place)
      → Ends (ending answer (length counts)) counts counts code
  unfolding code_of verdict_of counts_for room_for verified_outcome
  verified_refused e h = (
    h ∙ sym (ap (λ (a : Verified). capped (code_of (verdict_of (ending a (length counts))))) e),
    sym (ap (λ (a : Verified). counts_for (ending a (length counts)) check_figures_of counts) e),
  )

  module _ {k c b : ℕ} (e : answer ≡ Passed k c b) where
    pub verified_short : length counts < check_figures → Ends (ending answer (length counts)) counts counts 7
    unfolding capped code_of verdict_of counts_for room_for verified_outcome outcome refuse_if
    verified_short short = rw (e, lt-ltb (length counts) check_figures short) (refl, refl)

    pub verified_passed : check_figures ≤ length counts → {after : List ℕ} → after ≡ sets counts 0 (k ∷ c ∷ b ∷ [])
        → Ends (ending answer (length counts)) counts after 0
    unfolding capped code_of verdict_of counts_for room_for verified_outcome outcome refuse_if check_figures_of
    verified_passed long h = rw (e, le-ltb (length counts) check_figures long) (refl, h)

-- So the call ends as its definition says.
pub verify_ends : (text counts : List ℕ) (answer : Verified) {after : List ℕ} {code : ℕ} → verified_outcome answer ≡ verifying text
    → Ends (ending answer (length counts)) counts after code → Ends (verify_call text counts) counts after code
unfolding verify_call
verify_ends text counts answer h k = rw h at k
