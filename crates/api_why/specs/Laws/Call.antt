-- Asking by cases on the length of the lent counts: long enough, it is the library's own; too short, 1 to 6, 18 and then 7.
use Rattle.std.specs.Prelude.{ℕ, ◌+◌, ◌*◌, ◌<◌, ◌≤◌, ◌^◌, ◌≡◌, List, ◌++◌, length}
use Rattle.std.proofs.Math.Path.{refl, sym}
use Rattle.std.proofs.Common.{ap, ◌∙◌, lit<}
use Rattle.std.proofs.Math.ListN.{drop}
use Rattle.std.proofs.lemmas.List.Edits.{sets}
use Rattle.base_limits.specs.Verdict.{◌before◌, Outcome, refusal, answer, written}
use Rattle.base_limits.specs.declared.Verdict.TheVariants.{Refused}
use Rattle.survey_core.specs.Survey.{Survey}
use Rattle.survey_core.specs.Refusal.{survey_refusal}
use Rattle.why_rule.specs.Reason.{reason_of}
use Rattle.why_rule.specs.Why.{WhyCounts, route_in, why_refusal, reasoning, route_after}
use Rattle.api_code.specs.Code.{place_unit, code_of, capped, counts_after}
use Rattle.api_code.specs.Laws.Encodable.{Encodable, encodable_before, encodable_refuse, at_zero, at_place, survey_encodable, group_encodable}
use Rattle.api_code.specs.Laws.Ends.{counts_long, counts_short, counts_encodable}
use Rattle.api_code.specs.Laws.Ends.{short_code, short_kept, finished_code, finished_counts, refused_code, refused_counts}
use Rattle.api_why.specs.Stored.{why_figures_of, answer_code, answer_stored}
use Rattle.api_why.specs.Call.{why_figures, why_call, why_route, why_figured}

-- The track number has 32 bits, so that 19 can be told with it.
pub why_encodable : (s : Survey) (route_length e : ℕ) → e < 2 ^ 32 → Encodable (why_refusal s route_length e)
unfolding why_refusal
why_encodable s route_length e near =
    encodable_before _ _ (survey_encodable s) λ _.
    encodable_before _ _ (encodable_refuse _ (at_zero 7 (lit< tt) (lit< tt))) λ _.
    encodable_before _ _ (group_encodable s 8 _ (lit< tt) (lit< tt)) λ _.
    encodable_refuse _ (at_place 19 (lit< tt) (lit< tt) near)

module _ (s : Survey) (e : ℕ) (route counts : List ℕ) where
  why_long : why_figures ≤ length counts → why_call s e route counts ≡ why_refusal s (length route) e
  unfolding why_call why_refusal
  why_long h = counts_long s why_figures (length counts) _ h

  why_short : length counts < why_figures → why_call s e route counts ≡ (survey_refusal s before Refused 7 0)
  unfolding why_call
  why_short h = counts_short s why_figures (length counts) _ h

  pub why_call_encodable : e < 2 ^ 32 → Encodable (why_call s e route counts)
  unfolding why_call
  why_call_encodable near = counts_encodable s why_figures (length counts) _ (why_encodable s (length route) e near)

  module _ (short : length counts < why_figures) where
    pub why_short_code : {r : ℕ} → r ≡ code_of (survey_refusal s before Refused 7 0) → r ≡ code_of (why_call s e route counts)
    why_short_code = short_code (survey_refusal s) (why_short short)

    pub why_short_route : route ≡ why_route s e route counts
    unfolding why_route
    why_short_route = short_kept (survey_refusal s) (why_short short) _ route

    pub why_short_counts : counts ≡ why_figured s e route counts
    unfolding why_figured counts_after
    why_short_counts = short_kept (survey_refusal s) (why_short short) _ counts

  module _ (long : why_figures ≤ length counts) where
    pub why_route_law : {l : List ℕ} → l ≡ route_after s e route → l ≡ why_route s e route counts
    unfolding why_route route_after
    why_route_law h = h ∙ sym (ap (λ y. written y (route_in (reason_of s e) ++ drop (length (route_in (reason_of s e))) route) route) (why_long long))

    -- `o` is what asking answers.
    module _ {o : Outcome WhyCounts} (answered : o ≡ reasoning s (length route) e) where
      why_finished : {c : WhyCounts} → o ≡ answer c → 0 ≡ code_of (why_call s e route counts)
      unfolding reasoning
      why_finished h = finished_code (why_long long) _ (sym answered ∙ h)

      why_stored : {c : WhyCounts} → o ≡ answer c → {l : List ℕ} → l ≡ sets counts 0 (why_figures_of c) → l ≡ why_figured s e route counts
      unfolding reasoning why_figured
      why_stored h k = finished_counts (why_long long) _ (sym answered ∙ h) why_figures_of counts k

      why_refused : e < 2 ^ 32 → {number place : ℕ} → o ≡ refusal number place → {x : ℕ} → x ≡ capped (number + place_unit * place) → x ≡ code_of (why_call s e route counts)
      unfolding reasoning
      why_refused near {number} {place} h = refused_code (why_long long) _ (why_encodable s (length route) e near) number place (sym answered ∙ h)

      why_kept : {number place : ℕ} → o ≡ refusal number place → counts ≡ why_figured s e route counts
      unfolding reasoning why_figured
      why_kept {number} {place} h = refused_counts (why_long long) _ number place (sym answered ∙ h) _ counts

    -- The code of what asking answers, and the counts after it, are the call's.
    pub why_coded : (o : Outcome WhyCounts) → o ≡ reasoning s (length route) e → e < 2 ^ 32 → {x : ℕ} → x ≡ answer_code o → x ≡ code_of (why_call s e route counts)
    unfolding answer_code
    why_coded (refusal number place) answered near h = why_refused answered near refl h
    why_coded (answer c) answered near h = h ∙ why_finished answered refl

    pub why_counted : (o : Outcome WhyCounts) → o ≡ reasoning s (length route) e → {l : List ℕ} → l ≡ answer_stored o counts → l ≡ why_figured s e route counts
    unfolding answer_stored
    why_counted (refusal number place) answered h = h ∙ why_kept answered refl
    why_counted (answer c) answered h = why_stored answered refl h
