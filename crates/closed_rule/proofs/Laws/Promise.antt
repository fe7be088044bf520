-- What every call promises (document 02, No. 12): refused or not, what stands in each row, that it is what asking for the track alone writes, and what is
-- left of the buffer.
use Rattle.std.specs.Prelude.{ℕ, ◌*◌, ◌≤◌, ◌<◌, ◌≡◌, refl, List, [], ◌∷◌, ◌++◌, length, get_or, drop, ltb}
use Rattle.std.proofs.Common.{ap, sym, ◌∙◌, arith, drop_at, lit≤}
use borrow.Author.Tests.{ltb-false, le-ltb}
use Rattle.base_finite.specs.Laws.Test.{or_false_left, or_false_right}
use Rattle.base_limits.specs.Verdict.{written}
use Rattle.base_limits.specs.declared.Verdict.{Verdict}
use Rattle.base_limits.specs.declared.Verdict.TheVariants.{Fine, Refused}
use Rattle.base_limits.specs.Laws.Verdict.{before_fine, fine_left, fine_right, refuse_false, fine_refuse}
use Rattle.survey_core.specs.Survey.{Survey}
use Rattle.survey_core.specs.Sound.{ByteGroups}
use Rattle.survey_core.proofs.Laws.Refusal.{survey_fine, fine_survey}
use Rattle.closed_rule.specs.Closed.{max_closed, row_figures, closed_entry, row_of, rows_of, closed_refusal, result_after}
use Rattle.closed_rule.specs.Promise.{ClosedReady, row_at, ClosedPromises}
use Rattle.closed_rule.proofs.Laws.Entry.{entry_promises}
use Rattle.closed_rule.proofs.Laws.Rows.{length_rows, row_at_law}

module _ (s : Survey) (tracks_length result_length : ℕ) where
  pub fine_ready : closed_refusal s tracks_length result_length ≡ Fine → ClosedReady s tracks_length result_length
  unfolding closed_refusal
  fine_ready h =
      let short = fine_refuse _ 7 0 (fine_right _ _ h) in
      record {
        survey = fine_survey s (fine_left _ _ h);
        tracks_few = ltb-false max_closed tracks_length (or_false_left (ltb max_closed tracks_length) (ltb result_length (row_figures * tracks_length)) short);
        result_long = ltb-false result_length (row_figures * tracks_length) (or_false_right (ltb max_closed tracks_length) (ltb result_length (row_figures * tracks_length)) short);
      }

  pub ready_fine : ClosedReady s tracks_length result_length → closed_refusal s tracks_length result_length ≡ Fine
  unfolding closed_refusal
  ready_fine h =
      before_fine (survey_fine s h.survey) _
      ∙ refuse_false (rw (le-ltb max_closed tracks_length h.tracks_few, le-ltb result_length (row_figures * tracks_length) h.result_long)) 7 0

-- What the rows and what follows them are, where nothing is refused.
pub result_fine : (s : Survey) (tracks result : List ℕ) → closed_refusal s (length tracks) (length result) ≡ Fine
    → result_after s tracks result ≡ rows_of s tracks ++ drop (row_figures * length tracks) result
unfolding result_after written
result_fine s tracks result h = ap (λ v. written v (rows_of s tracks ++ drop (row_figures * length tracks) result) result) h

pub result_refused : (s : Survey) (tracks result : List ℕ) {number place : ℕ} → closed_refusal s (length tracks) (length result) ≡ Refused number place
    → result_after s tracks result ≡ result
unfolding result_after written
result_refused s tracks result h = ap (λ v. written v (rows_of s tracks ++ drop (row_figures * length tracks) result) result) h

module _ (s : Survey) (numbered : ByteGroups s) (tracks before : List ℕ) {after : List ℕ} {v : Verdict}
    (v_is : v ≡ closed_refusal s (length tracks) (length before)) (after_is : after ≡ result_after s tracks before) where
  row_is : v ≡ Fine → (i : ℕ) → i < length tracks → row_at after i ≡ row_of (closed_entry s (get_or tracks i 0))
  row_is h i b =
      ap (λ (l : List ℕ). row_at l i) (after_is ∙ result_fine s tracks before (sym v_is ∙ h)) ∙ row_at_law s tracks (drop (row_figures * length tracks) before) i b

  alone_is : v ≡ Fine → (c : ℕ) (other : List ℕ) → row_figures ≤ length other → row_at (result_after s (c ∷ []) other) 0 ≡ row_of (closed_entry s c)
  alone_is h c other long =
      let ready = fine_ready s (length tracks) (length before) (sym v_is ∙ h) in
      let one = ready_fine s 1 (length other) (record { survey = ready.survey; tracks_few = lit≤ tt; result_long = long }) in
      ap (λ (l : List ℕ). row_at l 0) (result_fine s (c ∷ []) other one) ∙ row_at_law s (c ∷ []) (drop (row_figures * 1) other) 0 (omega arith)

  kept_by_law : (w : Verdict) → v ≡ w → drop (row_figures * length tracks) after ≡ drop (row_figures * length tracks) before
  kept_by_law Fine h =
      ap (drop (row_figures * length tracks)) (after_is ∙ result_fine s tracks before (sym v_is ∙ h))
      ∙ drop_at (rows_of s tracks) (drop (row_figures * length tracks) before) (row_figures * length tracks) (length_rows s tracks)
  kept_by_law (Refused number place) h = ap (drop (row_figures * length tracks)) (after_is ∙ result_refused s tracks before (sym v_is ∙ h))

  pub closed_promises : ClosedPromises s tracks before after v
  closed_promises =
      record {
        ready = λ h. fine_ready s (length tracks) (length before) (sym v_is ∙ h);
        goes = λ h. v_is ∙ ready_fine s (length tracks) (length before) h;
        unwritten = λ number place h. after_is ∙ result_refused s tracks before (sym v_is ∙ h);
        rows = row_is;
        entries = λ h i. entry_promises s (get_or tracks i 0) numbered (fine_ready s (length tracks) (length before) (sym v_is ∙ h)).survey;
        alone = λ h i b other long. row_is h i b ∙ sym (alone_is h (get_or tracks i 0) other long);
        kept = kept_by_law v refl;
      }
