-- What is printed, by the verdict, and how much of the buffer that is.
use Rattle.std.specs.Prelude.{ℕ, ◌≤◌, ◌<◌, refl, ◌⊎◌, List}
use Rattle.std.proofs.Common.{arith, ap, ◌∙◌, inl, inr, lt-ltb, le-ltb}
use Rattle.std.proofs.Math.Path.{◌≡◌}
use Rattle.std.proofs.Math.ListN.{length}
use Rattle.base_finite.specs.Laws.Below.{lt_or_ge}
use Rattle.base_limits.specs.Verdict.{refuse_if}
use Rattle.base_limits.specs.declared.Verdict.{Verdict}
use Rattle.base_limits.specs.declared.Verdict.TheVariants.{Fine, Refused}
use Rattle.format_write.specs.Text.{refusal_text}
use Rattle.format_print.specs.Print.{answer_of, print_refusal, printed, printed_out}
use Rattle.format_print.specs.declared.Printed.{Printed}
use Rattle.format_print.specs.declared.Printed.TheVariants.{Length}
use Rattle.format_print.specs.declared.Printed.TheVariants.{Refused as RefusedPrint}
use Rattle.season_rule.specs.declared.Report.{Report}
use Rattle.season_rule.specs.Text.{report_text}
use Rattle.text_season.specs.Added.{answer_text, printed_bytes}

-- What a text's printing makes, for the text that the verdict asks.
pub printed_as : (v : Verdict) (r : Report) (text out : List ℕ) {answer : Printed} {after : List ℕ} → text ≡ answer_text v r → answer ≡ printed text out
    → after ≡ printed_out text out → (answer ≡ printed (answer_text v r) out) × (after ≡ printed_out (answer_text v r) out)
printed_as v r text out e a b = (a ∙ ap (λ x. printed x out) e, b ∙ ap (λ x. printed_out x out) e)

pub fine_text : {v : Verdict} (r : Report) → v ≡ Fine → report_text r ≡ answer_text v r
unfolding answer_text
fine_text r h = rw h

pub refused_text : {v : Verdict} (r : Report) {number place : ℕ} → v ≡ Refused number place → refusal_text number place ≡ answer_text v r
unfolding answer_text
refused_text r h = rw h

module _ (text out : List ℕ) where
  pub bytes_printed : {answer : Printed} {n : ℕ} → answer ≡ printed text out → answer ≡ Length n → n ≡ printed_bytes text out
  unfolding printed print_refusal refuse_if answer_of printed_bytes
  bytes_printed {answer} {n} is told = by (lt_or_ge (length out) (length text))
    where
      by : (length out < length text) ⊎ (length text ≤ length out) → n ≡ printed_bytes text out
      by (inl h) =
          let e : answer ≡ RefusedPrint 7 0 = is ∙ (rw (lt-ltb (length out) (length text) h) refl) in
          let z : ◌≡◌ {A = ℕ} 0 1 = cc in
          absurd (omega arith)
      by (inr h) =
          let e : answer ≡ Length (length text) = is ∙ (rw (le-ltb (length out) (length text) h) refl) in
          let same : n ≡ length text = cc in
          rw (le-ltb (length out) (length text) h) same

  pub none_printed : {answer : Printed} {number place : ℕ} → answer ≡ printed text out → answer ≡ RefusedPrint number place → 0 ≡ printed_bytes text out
  unfolding printed print_refusal refuse_if answer_of printed_bytes
  none_printed {answer} {number} {place} is told = by (lt_or_ge (length out) (length text))
    where
      by : (length out < length text) ⊎ (length text ≤ length out) → 0 ≡ printed_bytes text out
      by (inl h) = rw (lt-ltb (length out) (length text) h)
      by (inr h) =
          let e : answer ≡ Length (length text) = is ∙ (rw (le-ltb (length out) (length text) h) refl) in
          let z : ◌≡◌ {A = ℕ} 0 1 = cc in
          absurd (omega arith)

  -- It lies within the buffer.
  pub bytes_le : printed_bytes text out ≤ length out
  unfolding printed_bytes
  bytes_le = by (lt_or_ge (length out) (length text))
    where
      by : (length out < length text) ⊎ (length text ≤ length out) → printed_bytes text out ≤ length out
      by (inl h) = rw (lt-ltb (length out) (length text) h) (omega arith)
      by (inr h) = rw (le-ltb (length out) (length text) h) h
