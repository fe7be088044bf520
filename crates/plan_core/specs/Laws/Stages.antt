-- The stages of dropping as the code finds them. `marked_refusal` and `list_refusal` cite it.
use Rattle.std.specs.Prelude.{ℕ, ◌≡◌, List, length, get_or, ltb}
use Rattle.std.proofs.Common.{ap, ◌∙◌, eq-eqb, ne_eqb}
use Rattle.std.proofs.Math.Path.{sym}
use Rattle.std.proofs.Math.Bool.{not}
use Rattle.base_limits.specs.Verdict.{refuse_if, lowest_below}
use Rattle.base_limits.specs.declared.Verdict.{Verdict}
use Rattle.base_limits.specs.declared.Verdict.TheVariants.{Fine, Refused}
use Rattle.base_limits.specs.Laws.Verdict.{before_fine, before_refused, refuse_true, refuse_false}
use Rattle.survey_core.specs.Survey.{Survey, edge_count}
use Rattle.survey_core.specs.Refusal.{survey_refusal}
use Rattle.plan_core.specs.Picks.{marked_refusal, by_lists}

-- The stages as the code finds them: v is the survey's.
module _ (s : Survey) (marks : List ℕ) {v : Verdict} (v_is : v ≡ survey_refusal s) where
  pub unsound_stops : {number place : ℕ} → v ≡ Refused number place → v ≡ marked_refusal s marks
  unfolding marked_refusal
  unsound_stops h = h ∙ sym (before_refused (sym v_is ∙ h) _)

  pub uneven_stops : v ≡ Fine → (length marks ≡ length s.firsts → ⊥) → Refused 9 0 ≡ marked_refusal s marks
  unfolding marked_refusal edge_count
  uneven_stops h uneven =
      sym
      (before_fine (sym v_is ∙ h) _
      ∙ before_refused (refuse_true (ap not (ne_eqb (length marks) (length s.firsts) uneven)) 9 0) _)

  pub marks_decide : v ≡ Fine → length marks ≡ length s.firsts → {w : Verdict}
      → w ≡ lowest_below (length s.firsts) (λ e. refuse_if (ltb 1 (get_or marks e 0)) 10 e) → w ≡ marked_refusal s marks
  unfolding marked_refusal edge_count
  marks_decide h even is =
      is
      ∙ sym
      (before_fine (sym v_is ∙ h) _
      ∙ before_fine (refuse_false (ap not (eq-eqb (length marks) (length s.firsts) even)) 9 0) _)

-- ---- 14

pub lists_fine : {found : Verdict} (lists : Verdict) → found ≡ Fine → Fine ≡ by_lists found lists
unfolding by_lists
lists_fine lists h = rw h

pub lists_apart : {found lists r : Verdict} {number place : ℕ} → found ≡ Refused number place → number ≡ 14 → r ≡ lists → r ≡ by_lists found lists
unfolding by_lists
lists_apart {number = number} h e is = rw (h, eq-eqb number 14 e) is

pub lists_other : {found : Verdict} (lists : Verdict) {number place : ℕ} → found ≡ Refused number place → (number ≡ 14 → ⊥) → Refused number place ≡ by_lists found lists
unfolding by_lists
lists_other lists {number} h e = rw (h, ne_eqb number 14 e)
