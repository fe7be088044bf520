-- Each arm prints its answer.
use Rattle.std.specs.Prelude.{ℕ, ◌^◌, ◌<◌, ◌≡◌, take}
use Rattle.std.proofs.Math.Path.{ap, subst}
use Rattle.std.proofs.Common.{sym}
use mathlib.Core.List.{List}
use Rattle.base_limits.specs.Verdict.{Outcome, refusal, answer}
use Rattle.format_write.specs.Text.{refusal_text}
use Rattle.format_print.specs.declared.Printed.{Printed}
use Rattle.format_print.specs.Print.{printed, printed_out}
use Rattle.format_why.specs.ReasonText.{reason_text}
use Rattle.why_rule.specs.Why.{WhyCounts}
use Rattle.text_why.specs.Output.{ReasonCountsFit}
use Rattle.text_why.specs.WhyAnswer.{why_answer_text, WhyAnswerWords, refusal_words, reason_words}

module _ (track : ℕ) (route out : List ℕ) where
  -- What printing an answer answers and leaves.
  abbrev Printing : Printed → (new : List ℕ) → Outcome WhyCounts → Type 0
  Printing r new o = (r ≡ printed (why_answer_text o track route) out) × ((new ≡ printed_out (why_answer_text o track route) out) × WhyAnswerWords o)

  pub unasked_printed : {o : Outcome WhyCounts} {r : Printed} {new : List ℕ} {number place : ℕ} → o ≡ refusal number place
      → (r ≡ printed (refusal_text number place) out) × (new ≡ printed_out (refusal_text number place) out) → number < 2 ^ 64 → place < 2 ^ 64 → Printing r new o
  unfolding why_answer_text
  unasked_printed {r = r} {new = new} told p hn hp = subst (Printing r new) (sym told) (p.0, (p.1, refusal_words hn hp))

  pub reason_printed : {o : Outcome WhyCounts} {r : Printed} {new : List ℕ} {c : WhyCounts} {part : List ℕ} → o ≡ answer c → part ≡ take c.entries route
      → (r ≡ printed (reason_text track c.kind c.group c.low c.high c.round part) out)
      × (new ≡ printed_out (reason_text track c.kind c.group c.low c.high c.round part) out)
      → ReasonCountsFit c → Printing r new o
  unfolding why_answer_text
  reason_printed {r = r} {new = new} {c = c} told part_is p words =
      let text = ap (λ (a : List ℕ). reason_text track c.kind c.group c.low c.high c.round a) part_is in
      let q = subst (λ (w : List ℕ). (r ≡ printed w out) × (new ≡ printed_out w out)) text p in
      subst (Printing r new) (sym told) (q.0, (q.1, reason_words words))
