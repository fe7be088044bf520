-- What is printed of asking's answer is what `why` prints for the survey, and it fits the room. `why_survey` cites it.
use Rattle.std.specs.Prelude.{ℕ, ◌^◌, ◌≤◌, ◌<◌, ◌≡◌, take}
use Rattle.std.proofs.Math.Nat.{sub-zero}
use Rattle.std.proofs.Math.Path.{refl, ap, subst}
use Rattle.std.proofs.Common.{sym, ◌∙◌}
use mathlib.Core.List.{List}
use Rattle.std.proofs.Math.ListN.{length}
use Rattle.base_limits.specs.Limits.{max_route, why_room}
use Rattle.base_limits.specs.Verdict.{Outcome}
use Rattle.format_print.specs.declared.Printed.{Printed}
use Rattle.format_print.specs.Print.{printed, printed_out}
use Rattle.format_print.specs.Laws.Print.{prints_as}
use Rattle.format_why.specs.ReasonText.{reason_text}
use Rattle.survey_core.specs.Survey.{Survey}
use Rattle.survey_core.specs.Sound.{ByteGroups}
use Rattle.why_rule.specs.Why.{WhyCounts, reasoning, route_after}
use Rattle.text_why.specs.Output.{survey_lines}
use Rattle.text_why.specs.Laws.Output.{RouteBuffer, why_refusal_fits, unasked_lines, given_lines, given_fits}
use Rattle.text_why.specs.WhyAnswer.{why_answer_text, WhyAnswerWords, refusal_words, reason_words}

module _ (s : Survey) (e : ℕ) (numbered : ByteGroups s) (small : e < 2 ^ 64) {was : List ℕ} (buffer : RouteBuffer was) {after : List ℕ}
    (wrote : after ≡ route_after s e was) (long : length after ≡ max_route) where
  text_is : (o : Outcome WhyCounts) → WhyAnswerWords o → o ≡ reasoning s (length was) e → (why_answer_text o e after ≡ survey_lines s e) × (length (survey_lines s e) ≤ why_room)
  unfolding why_answer_text
  text_is o (refusal_words {number} {place} hn hp) told =
      let text = unasked_lines s e buffer told refl in
      (text, subst (λ (w : List ℕ). length w ≤ why_room) text (why_refusal_fits number place hn hp))
  text_is o (reason_words {c} words) told = (
    ap (λ (i : ℕ). reason_text e c.kind c.group c.low c.high c.round (take i after)) (sym (sub-zero c.entries)) ∙ given_lines s e buffer told refl wrote,
    given_fits s e buffer told refl wrote numbered small words long,
  )

  pub why_printed : (out : List ℕ) {o : Outcome WhyCounts} {r : Printed} {new : List ℕ} → o ≡ reasoning s (length was) e
      → (r ≡ printed (why_answer_text o e after) out) × ((new ≡ printed_out (why_answer_text o e after) out) × WhyAnswerWords o)
      → (r ≡ printed (survey_lines s e) out) × ((new ≡ printed_out (survey_lines s e) out) × (length (survey_lines s e) ≤ why_room))
  why_printed out {o} told p =
      let text = text_is o p.1.1 told in
      prints_as why_room out text.0 (p.0, p.1.0) (subst (λ (w : List ℕ). length w ≤ why_room) (sym text.0) text.1)
