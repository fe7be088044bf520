-- How a call ends: its counts do not fit, or the library has answered or refused. One set of laws for every call that takes a survey.
use Rattle.std.specs.Prelude.{ℕ, ◌+◌, ◌*◌, ◌<◌, ◌≤◌, ◌≡◌, refl, List}
use Rattle.std.proofs.Math.Path.{ap, sym}
use Rattle.std.proofs.Common.{◌∙◌, lit<, lt-ltb, le-ltb}
use Rattle.std.proofs.Math.Seq.{sets}
use Rattle.base_limits.specs.Verdict.{refuse_if, ◌before◌, written, refusal, answer, outcome}
use Rattle.base_limits.specs.declared.Verdict.{Verdict}
use Rattle.base_limits.specs.declared.Verdict.TheVariants.{Fine, Refused}
use Rattle.base_limits.specs.Laws.Verdict.{before_fine, before_refused, answer_fine, refusal_found}
use Rattle.survey_core.specs.Survey.{Survey}
use Rattle.survey_core.specs.Refusal.{survey_refusal}
use Rattle.api_code.specs.Code.{place_unit, code_of, capped, with_counts, counts_after}
use Rattle.api_code.specs.Laws.Encodable.{Encodable, exact_code, encodable_before, encodable_refuse, at_zero, survey_encodable}

-- ---- counts that fit, and counts that do not

-- A finding that comes first comes first twice.
before_twice : (v w : Verdict) → (v before v before w) ≡ (v before w)
unfolding ◌before◌
before_twice Fine w = refl
before_twice (Refused number place) w = refl

module _ (s : Survey) (wanted long : ℕ) (w : Verdict) where
  pub counts_long : wanted ≤ long → with_counts s wanted long (survey_refusal s before w) ≡ (survey_refusal s before w)
  unfolding with_counts refuse_if ◌before◌
  counts_long h = rw (le-ltb long wanted h) (before_twice (survey_refusal s) w)

  pub counts_short : long < wanted → with_counts s wanted long w ≡ (survey_refusal s before Refused 7 0)
  unfolding with_counts refuse_if ◌before◌
  counts_short h = rw (lt-ltb long wanted h)

  pub counts_encodable : Encodable w → Encodable (with_counts s wanted long w)
  unfolding with_counts
  counts_encodable h =
      encodable_before _ _ (survey_encodable s) λ _. encodable_before _ _ (encodable_refuse _ (at_zero 7 (lit< tt) (lit< tt))) λ _. h

-- ---- what `short_counts` answers, by what the survey's check found

module _ (s : Survey) {found : Verdict} (looked : found ≡ survey_refusal s) where
  pub short_counts_refused : (number place : ℕ) {r : ℕ} → found ≡ Refused number place → r ≡ capped (number + place_unit * place)
      → r ≡ code_of (survey_refusal s before Refused 7 0)
  short_counts_refused number place h k =
      let refused = sym looked ∙ h in
      exact_code (survey_refusal s) (survey_encodable s) number place refused k ∙ ap code_of (refused ∙ sym (before_refused refused (Refused 7 0)))

  pub short_seven : found ≡ Fine → 7 ≡ code_of (survey_refusal s before Refused 7 0)
  unfolding code_of
  short_seven h = sym (ap code_of (before_fine (sym looked ∙ h) (Refused 7 0)))

-- ---- the three ends of a call

-- Counts that do not fit: a refusal, so that nothing is written.
module _ {call : Verdict} (v : Verdict) (same : call ≡ (v before Refused 7 0)) where
  pub short_code : {r : ℕ} → r ≡ code_of (v before Refused 7 0) → r ≡ code_of call
  short_code h = h ∙ sym (ap code_of same)

  pub short_kept : (new old : List ℕ) → old ≡ written call new old
  unfolding written ◌before◌
  short_kept new old = by v same
    where
      by : (x : Verdict) → call ≡ (x before Refused 7 0) → old ≡ written call new old
      by Fine e = sym (ap (λ y. written y new old) e)
      by (Refused number place) e = sym (ap (λ y. written y new old) e)

-- What a call leaves where it is not refused, of what the library leaves by the same verdict.
pub written_twice : (v : Verdict) (new old : List ℕ) → written v (written v new old) old ≡ written v new old
unfolding written
written_twice Fine new old = refl
written_twice (Refused number place) new old = refl

-- The library's answer, finished or refused.
module _ {A : Type 0} {call w : Verdict} (same : call ≡ w) (a : A) where
  pub finished_code : {b : A} → outcome w a ≡ answer b → 0 ≡ code_of call
  unfolding code_of
  finished_code h = sym (ap code_of (same ∙ (answer_fine w a _ h).0))

  pub finished_counts : {b : A} → outcome w a ≡ answer b → (f : A → List ℕ) (counts : List ℕ) {stored : List ℕ} → stored ≡ sets counts 0 (f b)
      → stored ≡ counts_after call (f a) counts
  unfolding counts_after written
  finished_counts h f counts k =
      k ∙ ap (λ x. sets counts 0 (f x)) (sym (answer_fine w a _ h).1) ∙ sym (ap (λ y. written y (sets counts 0 (f a)) counts) (same ∙ (answer_fine w a _ h).0))

  pub refused_code : Encodable w → (number place : ℕ) → outcome w a ≡ refusal number place → {r : ℕ} → r ≡ capped (number + place_unit * place) → r ≡ code_of call
  refused_code fits number place h k = exact_code w fits number place (refusal_found w a h) k ∙ sym (ap code_of same)

  pub refused_counts : (number place : ℕ) → outcome w a ≡ refusal number place → (figures counts : List ℕ) → counts ≡ counts_after call figures counts
  unfolding counts_after written
  refused_counts number place h figures counts = sym (ap (λ y. written y (sets counts 0 figures) counts) (same ∙ refusal_found w a h))
