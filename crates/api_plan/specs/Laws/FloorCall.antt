-- The floor by cases on the length of the lent counts: long enough, it is the library's own; too short, 1 to 6, 18 and then 7.
use Rattle.std.specs.Prelude.{ℕ, ◌+◌, ◌*◌, ◌<◌, ◌≤◌, ◌≡◌, List, [], ◌∷◌, length, set}
use Rattle.std.proofs.Math.Path.{ap}
use Rattle.std.proofs.Common.{sym, ◌∙◌, lit<}
use Rattle.std.proofs.lemmas.List.Edits.{sets}
use Rattle.base_limits.specs.Verdict.{◌before◌}
use Rattle.base_limits.specs.declared.Verdict.TheVariants.{Refused}
use Rattle.survey_core.specs.Survey.{Survey}
use Rattle.survey_core.specs.Refusal.{survey_refusal}
use Rattle.plan_rule.specs.Figures.{figures_refusal}
use Rattle.floor_rule.specs.Floor.{flooring, floored_outcome}
use Rattle.floor_rule.specs.declared.Floored.{Floored}
use Rattle.floor_rule.specs.declared.Floored.TheVariants.{Finished, Refused as FloorRefused}
use Rattle.api_code.specs.Code.{place_unit, code_of, capped, counts_after}
use Rattle.api_code.specs.Laws.Encodable.{Encodable, encodable_before, survey_encodable, group_encodable}
use Rattle.api_code.specs.Laws.Ends.{counts_long, counts_short, counts_encodable}
use Rattle.api_code.specs.Laws.Ends.{short_code, short_kept, finished_code, finished_counts, refused_code, refused_counts}
use Rattle.api_plan.specs.FloorCall.{floor_figures, floor_figures_of, floor_call, floored_counts}

figures_encodable : (s : Survey) → Encodable (figures_refusal s)
unfolding figures_refusal
figures_encodable s = encodable_before _ _ (survey_encodable s) λ _. group_encodable s 8 _ (lit< tt) (lit< tt)

-- Four stores, one after the other.
pub stored_four : (counts : List ℕ) (floor terminals cost bound : ℕ) {one two three four : List ℕ} → one ≡ set counts 0 floor → two ≡ set one 1 terminals → three ≡ set two 2 cost
    → four ≡ set three 3 bound → four ≡ sets counts 0 (floor ∷ terminals ∷ cost ∷ bound ∷ [])
stored_four counts floor terminals cost bound a b c d =
    d ∙ ap (λ (l : List ℕ). set l 3 bound) (c ∙ ap (λ (l : List ℕ). set l 2 cost) (b ∙ ap (λ (l : List ℕ). set l 1 terminals) a))

module _ (s : Survey) (counts : List ℕ) where
  floor_long : floor_figures ≤ length counts → floor_call s counts ≡ figures_refusal s
  unfolding floor_call figures_refusal
  floor_long h = counts_long s floor_figures (length counts) _ h

  floor_short : length counts < floor_figures → floor_call s counts ≡ (survey_refusal s before Refused 7 0)
  unfolding floor_call
  floor_short h = counts_short s floor_figures (length counts) _ h

  pub floor_call_encodable : Encodable (floor_call s counts)
  unfolding floor_call
  floor_call_encodable = counts_encodable s floor_figures (length counts) _ (figures_encodable s)

  module _ (short : length counts < floor_figures) where
    pub floor_short_code : {r : ℕ} → r ≡ code_of (survey_refusal s before Refused 7 0) → r ≡ code_of (floor_call s counts)
    floor_short_code = short_code (survey_refusal s) (floor_short short)

    pub floor_short_counts : counts ≡ floored_counts s counts
    unfolding floored_counts counts_after
    floor_short_counts = short_kept (survey_refusal s) (floor_short short) _ counts

  module _ (long : floor_figures ≤ length counts) {r : Floored} (answered : floored_outcome r ≡ flooring s) where
    pub floor_finished : (f k c b : ℕ) → r ≡ Finished f k c b → 0 ≡ code_of (floor_call s counts)
    unfolding flooring floored_outcome
    floor_finished f k c b h = finished_code (floor_long long) _ (sym answered ∙ ap floored_outcome h)

    pub floor_stored : (f k c b : ℕ) → r ≡ Finished f k c b → {l : List ℕ} → l ≡ sets counts 0 (f ∷ k ∷ c ∷ b ∷ []) → l ≡ floored_counts s counts
    unfolding flooring floored_outcome floored_counts floor_figures_of
    floor_stored f k c b h e = finished_counts (floor_long long) _ (sym answered ∙ ap floored_outcome h) floor_figures_of counts e

    pub floor_refused : (number place : ℕ) → r ≡ FloorRefused number place → {x : ℕ} → x ≡ capped (number + place_unit * place) → x ≡ code_of (floor_call s counts)
    unfolding flooring floored_outcome
    floor_refused number place h = refused_code (floor_long long) _ (figures_encodable s) number place (sym answered ∙ ap floored_outcome h)

    pub floor_kept : (number place : ℕ) → r ≡ FloorRefused number place → counts ≡ floored_counts s counts
    unfolding flooring floored_outcome floored_counts
    floor_kept number place h = refused_counts (floor_long long) _ number place (sym answered ∙ ap floored_outcome h) _ counts
