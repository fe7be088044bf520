-- The calls from the handset, from numbers to bytes: refused for their lengths, or the call on what is seen of the survey.
use Rattle.std.specs.Prelude.{ℕ, ◌+◌, ◌*◌, ◌-◌, ◌<◌, ◌≤◌, ◌≡◌, List, ◌++◌, length, take, drop, ltb}
use Rattle.std.proofs.Math.Path.{refl, sym}
use Rattle.std.proofs.Common.{ap, ◌∙◌, lit<}
use Rattle.std.proofs.Math.Seq.{sets}
use Rattle.base_limits.specs.Verdict.{refuse_if, ◌before◌, written}
use Rattle.base_limits.specs.declared.Verdict.{Verdict}
use Rattle.base_limits.specs.declared.Verdict.TheVariants.{Fine, Refused}
use Rattle.base_limits.specs.Laws.Verdict.{before_fine}
use Rattle.api_handset.proofs.Laws.Result.{across_code, across_written, result_kept, result_stored}
use Rattle.survey_core.specs.Survey.{Survey}
use Rattle.survey_core.specs.Refusal.{survey_refusal}
use Rattle.check_rule.specs.Check.{check_refusal, checked_of}
use Rattle.plan_rule.specs.Plan.{plan_refusal, marks_after, records_after}
use Rattle.api_code.specs.Code.{place_unit, code_of, capped, with_counts, lent_on}
use Rattle.api_code.specs.Laws.Encodable.{Encodable, exact_code, encodable_before, encodable_refuse, at_zero}
use Rattle.api_plan.specs.Call.{plan_figures, plan_figures_of, plan_call, drawn_figures, plan_marks, plan_records, plan_counts}
use Rattle.api_plan.specs.Laws.Call.{plan_encodable}
use Rattle.api_check.specs.Call.{check_figures, check_figures_of, check_call, check_counts}
use Rattle.api_check.specs.Laws.Call.{check_encodable}
use Rattle.api_handset.specs.Words.{spelled_counts, with_spelled}
use Rattle.api_handset.specs.Slices.{Slices, survey_spelled, size_refusal, lengths_refusal, ragged_refusal}
use Rattle.api_handset.proofs.Laws.Lengths.{slices_refusal, lengths_refused, lengths_whole}
use Rattle.api_handset.proofs.Laws.Pairs.{Seen, seen_call, seen_written}
use Rattle.api_handset.specs.Call.{plan_bytes, check_bytes, result_after, check_with, handset_check, handset_check_result}
use Rattle.api_handset.specs.Call.{plan_with, handset_plan, handset_marks, handset_records, handset_plan_result}

-- ---- a survey in numbers, by the library's call with as many entries for counts as are lent on

module _ (s : Survey) (marks records result zeros : List ℕ) where
  module _ (size : length zeros ≡ check_figures) {room : ℕ} (lent : room ≡ lent_on (length result) check_bytes check_figures) {found : ℕ}
      (called : found ≡ code_of (check_call s marks records (take (room - 0) zeros))) where
    pub check_words_code : found ≡ code_of (check_with s marks records result)
    unfolding check_call check_with
    check_words_code = across_code s (check_refusal s marks records) check_figures (lit< tt) zeros result size lent called

    pub check_words_kept : 0 < found → (figures : List ℕ) → result ≡ result_after (check_with s marks records result) figures result
    unfolding check_call check_with
    check_words_kept some figures = result_kept s (check_refusal s marks records) check_figures (lit< tt) zeros result size lent called some figures

    pub check_words_stored : found ≤ 0 → {part after : List ℕ} → part ≡ check_counts s marks records (take (room - 0) zeros)
        → after ≡ with_spelled result (part ++ drop (room - 0) zeros)
        → after ≡ result_after (check_with s marks records result) (check_figures_of (checked_of s marks records)) result
    unfolding check_call check_with check_counts check_figures_of
    check_words_stored none stored wrote =
        result_stored s (check_refusal s marks records) check_figures (lit< tt) zeros result size lent (check_encodable s marks records) called none
        (check_figures_of (checked_of s marks records)) refl stored wrote

  module _ (size : length zeros ≡ plan_figures) {room : ℕ} (lent : room ≡ lent_on (length result) plan_bytes plan_figures) where
    pub plan_words_code : {found : ℕ} → found ≡ code_of (plan_call s marks records (take (room - 0) zeros)) → found ≡ code_of (plan_with s marks records result)
    unfolding plan_call plan_with
    plan_words_code called = across_code s (plan_refusal s (length marks) (length records)) plan_figures (lit< tt) zeros result size lent called

    pub plan_words_marks : {after : List ℕ} → after ≡ plan_marks s marks records (take (room - 0) zeros)
        → after ≡ written (plan_with s marks records result) (marks_after s marks records) marks
    unfolding plan_call plan_with plan_marks
    plan_words_marks h = across_written s (plan_refusal s (length marks) (length records)) plan_figures (lit< tt) zeros result size lent (marks_after s marks records) marks h

    pub plan_words_records : {after : List ℕ} → after ≡ plan_records s marks records (take (room - 0) zeros)
        → after ≡ written (plan_with s marks records result) (records_after s marks records) records
    unfolding plan_call plan_with plan_records
    plan_words_records h =
        across_written s (plan_refusal s (length marks) (length records)) plan_figures (lit< tt) zeros result size lent (records_after s marks records) records h

    module _ {found : ℕ} (called : found ≡ code_of (plan_call s marks records (take (room - 0) zeros))) where
      pub plan_words_kept : 0 < found → (figures : List ℕ) → result ≡ result_after (plan_with s marks records result) figures result
      unfolding plan_call plan_with
      plan_words_kept some figures =
          result_kept s (plan_refusal s (length marks) (length records)) plan_figures (lit< tt) zeros result size lent called some figures

      pub plan_words_stored : found ≤ 0 → {part after : List ℕ} → part ≡ plan_counts s marks records (take (room - 0) zeros)
          → after ≡ with_spelled result (part ++ drop (room - 0) zeros)
          → after ≡ result_after (plan_with s marks records result) (drawn_figures s) result
      unfolding plan_call plan_with plan_counts drawn_figures plan_figures_of
      plan_words_stored none stored wrote =
          result_stored s (plan_refusal s (length marks) (length records)) plan_figures (lit< tt) zeros result size lent
          (plan_encodable s (length marks) (length records)) called none (drawn_figures s) refl stored wrote

-- ---- from numbers to bytes

-- The lengths alone.
lengths_encodable : (groups firsts seconds weights owners others : ℕ) → Encodable (lengths_refusal groups firsts seconds weights owners others)
unfolding lengths_refusal size_refusal
lengths_encodable groups firsts seconds weights owners others =
    encodable_before _ _ (encodable_refuse _ (at_zero 1 (lit< tt) (lit< tt))) λ _.
    encodable_before _ _ (encodable_refuse _ (at_zero 2 (lit< tt) (lit< tt))) λ _.
    encodable_before _ _ (encodable_refuse _ (at_zero 2 (lit< tt) (lit< tt))) λ _.
    encodable_refuse _ (at_zero 3 (lit< tt) (lit< tt))

-- The call is refused for its lengths.
module _ (b : Slices) {number place : ℕ} (h : slices_refusal b ≡ Refused number place) (w : Verdict) where
  odd_code : {r : ℕ} → r ≡ capped (number + place_unit * place) → r ≡ code_of (ragged_refusal b before survey_refusal (survey_spelled b) before w)
  odd_code k = exact_code (slices_refusal b) (lengths_encodable _ _ _ _ _ _) number place h k ∙ ap code_of (h ∙ sym (lengths_refused b h w))

  odd_kept : (new old : List ℕ) → old ≡ written (ragged_refusal b before survey_refusal (survey_spelled b) before w) new old
  unfolding written
  odd_kept new old = sym (ap (λ v. written v new old) (lengths_refused b h w))

-- It is the call on what is seen of the survey.
module _ (b : Slices) {t : Survey} (fine : slices_refusal b ≡ Fine) (seen : Seen (survey_spelled b) t) (rest : Survey → Verdict) where
  even_code : {r : ℕ} → r ≡ code_of (survey_refusal t before rest t) → r ≡ code_of (ragged_refusal b before survey_refusal (survey_spelled b) before rest (survey_spelled b))
  even_code k = k ∙ ap code_of (seen_call rest seen ∙ sym (before_fine (lengths_whole b fine) _))

  even_written : (new : Survey → List ℕ) (old : List ℕ) {after : List ℕ} → after ≡ written (survey_refusal t before rest t) (new t) old
      → after ≡ written (ragged_refusal b before survey_refusal (survey_spelled b) before rest (survey_spelled b)) (new (survey_spelled b)) old
  even_written new old k =
      k ∙ seen_written rest new old seen ∙ ap (λ v. written v (new (survey_spelled b)) old) (sym (before_fine (lengths_whole b fine) _))

module _ (b : Slices) (marks records result : List ℕ) where
  pub check_odd_code : {number place r : ℕ} → slices_refusal b ≡ Refused number place → r ≡ capped (number + place_unit * place) → r ≡ code_of (handset_check b marks records result)
  unfolding handset_check check_with with_counts
  check_odd_code h k = odd_code b h _ k

  pub check_odd_kept : {number place : ℕ} → slices_refusal b ≡ Refused number place → result ≡ handset_check_result b marks records result
  unfolding handset_check_result result_after handset_check check_with with_counts
  check_odd_kept h = odd_kept b h _ _ result

  module _ {t : Survey} (fine : slices_refusal b ≡ Fine) (seen : Seen (survey_spelled b) t) where
    pub check_even_code : {r : ℕ} → r ≡ code_of (check_with t marks records result) → r ≡ code_of (handset_check b marks records result)
    unfolding handset_check check_with with_counts
    check_even_code k = even_code b fine seen (λ s. refuse_if (ltb (length result) check_bytes) 7 0 before check_refusal s marks records) k

    pub check_even_result : {after : List ℕ} → after ≡ result_after (check_with t marks records result) (check_figures_of (checked_of t marks records)) result
        → after ≡ handset_check_result b marks records result
    unfolding handset_check_result result_after handset_check check_with with_counts
    check_even_result k =
        even_written b fine seen (λ s. refuse_if (ltb (length result) check_bytes) 7 0 before check_refusal s marks records)
        (λ s. sets result 0 (spelled_counts (check_figures_of (checked_of s marks records)))) result k

  pub plan_odd_code : {number place r : ℕ} → slices_refusal b ≡ Refused number place → r ≡ capped (number + place_unit * place) → r ≡ code_of (handset_plan b marks records result)
  unfolding handset_plan plan_with with_counts
  plan_odd_code h k = odd_code b h _ k

  module _ {number place : ℕ} (h : slices_refusal b ≡ Refused number place) where
    pub plan_odd_marks : marks ≡ handset_marks b marks records result
    unfolding handset_marks handset_plan plan_with with_counts
    plan_odd_marks = odd_kept b h _ _ marks

    pub plan_odd_records : records ≡ handset_records b marks records result
    unfolding handset_records handset_plan plan_with with_counts
    plan_odd_records = odd_kept b h _ _ records

    pub plan_odd_result : result ≡ handset_plan_result b marks records result
    unfolding handset_plan_result result_after handset_plan plan_with with_counts
    plan_odd_result = odd_kept b h _ _ result

  module _ {t : Survey} (fine : slices_refusal b ≡ Fine) (seen : Seen (survey_spelled b) t) where
    abbrev rest : Survey → Verdict
    rest s = refuse_if (ltb (length result) plan_bytes) 7 0 before plan_refusal s (length marks) (length records)

    pub plan_even_code : {r : ℕ} → r ≡ code_of (plan_with t marks records result) → r ≡ code_of (handset_plan b marks records result)
    unfolding handset_plan plan_with with_counts
    plan_even_code k = even_code b fine seen rest k

    pub plan_even_marks : {after : List ℕ} → after ≡ written (plan_with t marks records result) (marks_after t marks records) marks
        → after ≡ handset_marks b marks records result
    unfolding handset_marks handset_plan plan_with with_counts
    plan_even_marks k = even_written b fine seen rest (λ s. marks_after s marks records) marks k

    pub plan_even_records : {after : List ℕ} → after ≡ written (plan_with t marks records result) (records_after t marks records) records
        → after ≡ handset_records b marks records result
    unfolding handset_records handset_plan plan_with with_counts
    plan_even_records k = even_written b fine seen rest (λ s. records_after s marks records) records k

    pub plan_even_result : {after : List ℕ} → after ≡ result_after (plan_with t marks records result) (drawn_figures t) result
        → after ≡ handset_plan_result b marks records result
    unfolding handset_plan_result result_after handset_plan plan_with with_counts
    plan_even_result k = even_written b fine seen rest (λ s. sets result 0 (spelled_counts (drawn_figures s))) result k
