-- The call for groups with strengths by cases on the length of the lent counts: long enough, it is the library's own; too short, 1 to 6, 18, 24 and then 7.
use Rattle.std.specs.Prelude.{ℕ, ◌+◌, ◌*◌, ◌<◌, ◌≤◌, ◌≡◌, refl, List, [], ◌∷◌, length}
use Rattle.std.proofs.Common.{arith, ◌∙◌, lit<, lt-ltb, le-ltb}
use Rattle.std.proofs.Math.Path.{ap, sym}
use Rattle.std.proofs.lemmas.List.Edits.{sets}
use Rattle.base_limits.specs.Verdict.{refuse_if, ◌before◌, written}
use Rattle.base_limits.specs.declared.Verdict.{Verdict}
use Rattle.base_limits.specs.declared.Verdict.TheVariants.{Fine, Refused}
use Rattle.base_limits.specs.Laws.Verdict.{before_fine, before_refused}
use Rattle.survey_core.specs.Survey.{Survey}
use Rattle.winter_rule.specs.declared.Winter.{Winter}
use Rattle.winter_rule.specs.declared.Winter.TheVariants.{Finished, Refused as WinterRefused}
use Rattle.winter_rule.specs.Winter.{strength_count, strength_refusal, strengths_refusal, given_refusal, winter_refusal, wintering, copies_over, copies_after, winter_outcome}
use Rattle.api_code.specs.Code.{place_unit, code_of, capped, counts_after}
use Rattle.api_code.specs.Laws.Encodable.{Encodable, exact_code, encodable_before, encodable_refuse, encodable_lowest, at_zero, at_place, survey_encodable, group_encodable}
use Rattle.api_code.specs.Laws.Ends.{short_code, short_kept, finished_code, finished_counts, refused_code, refused_counts}
use Rattle.api_plan.specs.WinterCall.{winter_figures, winter_figures_of, winter_call, winter_copies, winter_counts}

strengths_encodable : (strengths : List ℕ) → Encodable (strengths_refusal strengths)
unfolding strengths_refusal strength_refusal
strengths_encodable strengths =
    encodable_before _ _ (encodable_refuse _ (at_zero 24 (lit< tt) (lit< tt))) λ _.
    encodable_lowest strength_count _ λ i b. encodable_refuse _ (at_place 24 (lit< tt) (lit< tt) (omega arith))

pub given_encodable : (s : Survey) (strengths : List ℕ) → Encodable (given_refusal s strengths)
unfolding given_refusal
given_encodable s strengths = encodable_before _ _ (survey_encodable s) λ _. strengths_encodable strengths

winter_encodable : (s : Survey) (strengths : List ℕ) (copies : ℕ) → Encodable (winter_refusal s strengths copies)
unfolding winter_refusal
winter_encodable s strengths copies =
    encodable_before _ _ (given_encodable s strengths) λ _.
    encodable_before _ _ (encodable_refuse _ (at_zero 7 (lit< tt) (lit< tt))) λ _. group_encodable s 8 _ (lit< tt) (lit< tt)

-- ---- what is answered where the counts do not fit

module _ (s : Survey) (strengths : List ℕ) {found : Verdict} (looked : found ≡ given_refusal s strengths) where
  pub short_refused : (number place : ℕ) {r : ℕ} → found ≡ Refused number place → r ≡ capped (number + place_unit * place)
      → r ≡ code_of (given_refusal s strengths before Refused 7 0)
  short_refused number place h k =
      let refused = sym looked ∙ h in
      exact_code (given_refusal s strengths) (given_encodable s strengths) number place refused k ∙ ap code_of (refused ∙ sym (before_refused refused (Refused 7 0)))

  pub short_seven : found ≡ Fine → 7 ≡ code_of (given_refusal s strengths before Refused 7 0)
  unfolding code_of
  short_seven h = sym (ap code_of (before_fine (sym looked ∙ h) (Refused 7 0)))

-- A finding that comes first comes first twice.
before_twice : (v w : Verdict) → (v before v before w) ≡ (v before w)
unfolding ◌before◌
before_twice Fine w = refl
before_twice (Refused number place) w = refl

module _ (s : Survey) (strengths copies counts : List ℕ) where
  winter_long : winter_figures ≤ length counts → winter_call s strengths copies counts ≡ winter_refusal s strengths (length copies)
  unfolding winter_call winter_refusal refuse_if ◌before◌
  winter_long h = rw (le-ltb (length counts) winter_figures h) (before_twice (given_refusal s strengths) _)

  winter_short : length counts < winter_figures → winter_call s strengths copies counts ≡ (given_refusal s strengths before Refused 7 0)
  unfolding winter_call refuse_if ◌before◌
  winter_short h = rw (lt-ltb (length counts) winter_figures h)

  pub winter_call_encodable : Encodable (winter_call s strengths copies counts)
  unfolding winter_call
  winter_call_encodable =
      encodable_before _ _ (given_encodable s strengths) λ _.
      encodable_before _ _ (encodable_refuse _ (at_zero 7 (lit< tt) (lit< tt))) λ _. winter_encodable s strengths (length copies)

  module _ (short : length counts < winter_figures) where
    pub winter_short_code : {r : ℕ} → r ≡ code_of (given_refusal s strengths before Refused 7 0) → r ≡ code_of (winter_call s strengths copies counts)
    winter_short_code = short_code (given_refusal s strengths) (winter_short short)

    pub winter_short_copies : copies ≡ winter_copies s strengths copies counts
    unfolding winter_copies
    winter_short_copies = short_kept (given_refusal s strengths) (winter_short short) _ copies

    pub winter_short_counts : counts ≡ winter_counts s strengths copies counts
    unfolding winter_counts counts_after
    winter_short_counts = short_kept (given_refusal s strengths) (winter_short short) _ counts

  module _ (long : winter_figures ≤ length counts) where
    pub winter_copies_law : {l : List ℕ} → l ≡ copies_after s strengths copies → l ≡ winter_copies s strengths copies counts
    unfolding winter_copies copies_after
    winter_copies_law h = h ∙ sym (ap (λ y. written y (copies_over s strengths copies) copies) (winter_long long))

    module _ {r : Winter} (answered : winter_outcome r ≡ wintering s strengths (length copies)) where
      pub winter_finished : (total : ℕ) → r ≡ Finished total → 0 ≡ code_of (winter_call s strengths copies counts)
      unfolding wintering winter_outcome
      winter_finished total h = finished_code (winter_long long) _ (sym answered ∙ ap winter_outcome h)

      pub winter_stored : (total : ℕ) → r ≡ Finished total → {l : List ℕ} → l ≡ sets counts 0 (total ∷ []) → l ≡ winter_counts s strengths copies counts
      unfolding wintering winter_outcome winter_counts winter_figures_of
      winter_stored total h e = finished_counts (winter_long long) _ (sym answered ∙ ap winter_outcome h) winter_figures_of counts e

      pub winter_refused : (number place : ℕ) → r ≡ WinterRefused number place → {x : ℕ} → x ≡ capped (number + place_unit * place)
          → x ≡ code_of (winter_call s strengths copies counts)
      unfolding wintering winter_outcome
      winter_refused number place h =
          refused_code (winter_long long) _ (winter_encodable s strengths (length copies)) number place (sym answered ∙ ap winter_outcome h)

      pub winter_kept : (number place : ℕ) → r ≡ WinterRefused number place → counts ≡ winter_counts s strengths copies counts
      unfolding wintering winter_outcome winter_counts
      winter_kept number place h = refused_counts (winter_long long) _ number place (sym answered ∙ ap winter_outcome h) _ counts
