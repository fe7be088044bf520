-- Laws of the code's answers as steps: what follows a value, a refusal and a test.
use Rattle.std.specs.Prelude.{ℕ, ◌≡◌}
use Rattle.std.proofs.Common.{ap, sym, ◌∙◌}
use Rattle.base_limits.specs.declared.Verdict.{Verdict}
use Rattle.base_limits.specs.declared.Verdict.TheVariants.{Fine, Refused as Verdict_refused}
use Rattle.format_read.specs.Answer.{number_step}
use Rattle.format_read.specs.declared.Cursor.{Cursor}
use Rattle.format_read.specs.declared.Number.{Number}
use Rattle.format_read.specs.declared.Number.TheVariants.{Refused, Value}
use Rattle.format_read.proofs.Laws.Step.{then_found, then_refused}
use Rattle.format_read.specs.Step.{Step, found, refused, ◌then◌, checked, stopped}

-- The same of the code's answers.
pub value_goes : {B : Type 0} {r : Number} {s : Step ℕ} {v : ℕ} {c : Cursor} (k : ℕ → ℕ → Step B) → number_step r ≡ s → r ≡ Value v c → (s then k) ≡ k v c.at
unfolding number_step
value_goes k e told = then_found k (sym e ∙ ap number_step told)

pub refusal_stays : {r : Number} {s : Step ℕ} {n p : ℕ} (k : ℕ → ℕ → Step ℕ) → number_step r ≡ s → r ≡ Refused n p → number_step r ≡ (s then k)
unfolding number_step
refusal_stays {r} {s} {n} {p} k e told = ap number_step told ∙ sym (then_refused k (sym e ∙ ap number_step told))

pub stopped_stays : {B : Type 0} {r : Number} {s : Step ℕ} {n p : ℕ} (k : ℕ → ℕ → Step B) → number_step r ≡ s → r ≡ Refused n p → stopped (number_step r) ≡ (s then k)
unfolding number_step stopped
stopped_stays k e told = ap (λ x. stopped (number_step x)) told ∙ sym (then_refused k (sym e ∙ ap number_step told))

-- A test of the value that was read.
pub check_refused : {r : Number} {s : Step ℕ} {v : ℕ} {c : Cursor} {n p : ℕ} (test : ℕ → Verdict) → number_step r ≡ s → r ≡ Value v c → test v ≡ Verdict_refused n p → refused n p ≡ (s then λ x q. checked (test x) x q)
unfolding checked
check_refused {v = v} {c = c} test e told f = sym (value_goes _ e told ∙ ap (λ w. checked w v c.at) f)

pub check_fine : {r : Number} {s : Step ℕ} {v : ℕ} {c : Cursor} (test : ℕ → Verdict) → number_step r ≡ s → r ≡ Value v c → test v ≡ Fine → found v c.at ≡ (s then λ x q. checked (test x) x q)
unfolding checked
check_fine {v = v} {c = c} test e told f = sym (value_goes _ e told ∙ ap (λ w. checked w v c.at) f)
