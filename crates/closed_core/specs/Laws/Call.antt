-- The refusals of the call as the code finds them, what is stored for a row, and the whole call. `closed_refusal`, `store_row` and `closed` cite it.
use Rattle.std.specs.Prelude.{ℕ, suc, ◌+◌, ◌*◌, ◌≤◌, ◌<◌, ◌≡◌, List, [], ◌∷◌, ◌++◌, length, set, drop, ltb}
use Rattle.std.proofs.Common.{arith, ap, sym, ◌∙◌}
use Rattle.std.proofs.lemmas.List.Edits.{sets}
use borrow.Author.Tests.{lt-ltb, le-ltb}
use Rattle.base_finite.specs.Laws.Test.{or_left, or_right}
use Rattle.base_limits.specs.declared.Verdict.{Verdict}
use Rattle.base_limits.specs.declared.Verdict.TheVariants.{Fine, Refused}
use Rattle.base_limits.specs.Laws.Verdict.{passed_on, goes_on_law, refuse_true, refuse_false}
use Rattle.survey_core.specs.Survey.{Survey}
use Rattle.survey_core.specs.Sound.{ByteGroups}
use Rattle.survey_core.specs.Refusal.{survey_refusal}
use Rattle.closed_rule.specs.declared.Closed.{Closed}
use Rattle.closed_rule.specs.declared.Closed.TheVariants.{Finished as RowFinished, Refused as RowRefused}
use Rattle.closed_rule.specs.Closed.{max_closed, row_figures, closed_outcome, row_of, rows_of, closed_refusal, result_after}
use Rattle.closed_rule.specs.Promise.{ClosedPromises}
use Rattle.closed_rule.proofs.Laws.Promise.{result_fine, result_refused, closed_promises}

-- ---- what ends the call

module _ (s : Survey) (tracks result : ℕ) {v : Verdict} (v_is : v ≡ survey_refusal s) where
  pub unsound_stops : {number place : ℕ} → v ≡ Refused number place → v ≡ closed_refusal s tracks result
  unfolding closed_refusal
  unsound_stops h = passed_on v_is h _

  pub long_stops : v ≡ Fine → max_closed < tracks → Refused 7 0 ≡ closed_refusal s tracks result
  unfolding closed_refusal
  long_stops h b = goes_on_law v_is h (sym (refuse_true (or_left (ltb max_closed tracks) (ltb result (row_figures * tracks)) (lt-ltb max_closed tracks b)) 7 0))

  pub short_stops : v ≡ Fine → result < row_figures * tracks → Refused 7 0 ≡ closed_refusal s tracks result
  unfolding closed_refusal
  short_stops h b =
      goes_on_law v_is h (sym (refuse_true (or_right (ltb max_closed tracks) (ltb result (row_figures * tracks)) (lt-ltb result (row_figures * tracks) b)) 7 0))

  pub nothing_stops : v ≡ Fine → tracks ≤ max_closed → row_figures * tracks ≤ result → Fine ≡ closed_refusal s tracks result
  unfolding closed_refusal
  nothing_stops h b d =
      goes_on_law v_is h (sym (refuse_false (rw (le-ltb max_closed tracks b, le-ltb result (row_figures * tracks) d)) 7 0))

-- ---- a row

pub stored_four : (l : List ℕ) (at a b d e : ℕ) {one two three four : List ℕ} → one ≡ set l at a → two ≡ set one (at + 1) b → three ≡ set two (at + 2) d
    → four ≡ set three (at + 3) e → four ≡ sets l at (a ∷ b ∷ d ∷ e ∷ [])
stored_four l at a b d e {one} {two} {three} h i j k =
    let p1 : at + 1 ≡ suc at = omega arith in
    let p2 : at + 2 ≡ suc (suc at) = omega arith in
    let p3 : at + 3 ≡ suc (suc (suc at)) = omega arith in
    k
    ∙ ap (λ (n : ℕ). set three n e) p3
    ∙ ap (λ (x : List ℕ). set x (suc (suc (suc at))) e)
    (j
    ∙ ap (λ (n : ℕ). set two n d) p2
    ∙ ap (λ (x : List ℕ). set x (suc (suc at)) d) (i ∙ ap (λ (n : ℕ). set one n b) p1 ∙ ap (λ (x : List ℕ). set x (suc at) b) h))

pub row_finished : (l : List ℕ) (at : ℕ) {row : Closed} {cost bound : ℕ} {after : List ℕ} → row ≡ RowFinished cost bound
    → after ≡ sets l at (0 ∷ 0 ∷ cost ∷ bound ∷ []) → after ≡ sets l at (row_of (closed_outcome row))
unfolding row_of closed_outcome
row_finished l at h k = k ∙ sym (ap (λ (x : Closed). sets l at (row_of (closed_outcome x))) h)

pub row_refused : (l : List ℕ) (at : ℕ) {row : Closed} {number place wide : ℕ} {after : List ℕ} → row ≡ RowRefused number place → wide ≡ place
    → after ≡ sets l at (number ∷ wide ∷ 0 ∷ 0 ∷ []) → after ≡ sets l at (row_of (closed_outcome row))
unfolding row_of closed_outcome
row_refused l at {row} {number} h w k =
    k ∙ ap (λ (x : ℕ). sets l at (number ∷ x ∷ 0 ∷ 0 ∷ [])) w ∙ sym (ap (λ (x : Closed). sets l at (row_of (closed_outcome x))) h)

-- ---- the whole call

module _ (s : Survey) (numbered : ByteGroups s) (tracks result : List ℕ) {v : Verdict} (v_is : v ≡ closed_refusal s (length tracks) (length result)) where
  pub closed_stops : {number place : ℕ} → v ≡ Refused number place
      → (v ≡ closed_refusal s (length tracks) (length result)) × ((result ≡ result_after s tracks result) × ClosedPromises s tracks result result v)
  closed_stops h =
      let same : result ≡ result_after s tracks result = sym (result_refused s tracks result (sym v_is ∙ h)) in
      (v_is, (same, closed_promises s numbered tracks result v_is same))

  pub closed_goes : {after : List ℕ} → v ≡ Fine → after ≡ rows_of s tracks ++ drop (row_figures * length tracks) result
      → (Fine ≡ closed_refusal s (length tracks) (length result)) × ((after ≡ result_after s tracks result) × ClosedPromises s tracks result after Fine)
  closed_goes h rows =
      let fine : Fine ≡ closed_refusal s (length tracks) (length result) = sym h ∙ v_is in
      let same = rows ∙ sym (result_fine s tracks result (sym fine)) in
      (fine, (same, closed_promises s numbered tracks result fine same))
