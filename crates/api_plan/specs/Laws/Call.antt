-- Planning by cases on the length of the lent counts: long enough, it is the library's own; too short, 1 to 6, 18 and then 7.
use Rattle.std.specs.Prelude.{ℕ, ◌+◌, ◌*◌, ◌<◌, ◌≤◌, ◌≡◌, List, [], ◌∷◌, length}
use Rattle.std.proofs.Math.Path.{ap, sym}
use Rattle.std.proofs.Common.{◌∙◌, lit<}
use Rattle.std.proofs.lemmas.List.Edits.{sets}
use Rattle.base_limits.specs.Verdict.{◌before◌, written}
use Rattle.base_limits.specs.declared.Verdict.TheVariants.{Refused}
use Rattle.survey_core.specs.Survey.{Survey}
use Rattle.survey_core.specs.Refusal.{survey_refusal}
use Rattle.plan_rule.specs.Plan.{plan_refusal, counting, marks_after, records_after}
use Rattle.plan_rule.specs.Answer.{planned_outcome as plan_outcome}
use Rattle.plan_rule.specs.declared.Planned.{Planned}
use Rattle.plan_rule.specs.declared.Planned.TheVariants.{Finished, Refused as PlanRefused}
use Rattle.api_code.specs.Code.{place_unit, code_of, capped, counts_after}
use Rattle.api_code.specs.Laws.Encodable.{Encodable, encodable_before, encodable_refuse, at_zero, survey_encodable, group_encodable}
use Rattle.api_code.specs.Laws.Ends.{counts_long, counts_short, counts_encodable}
use Rattle.api_code.specs.Laws.Ends.{short_code, short_kept, written_twice, finished_code, finished_counts, refused_code, refused_counts}
use Rattle.api_plan.specs.Call.{plan_figures, plan_figures_of, plan_call, drawn_figures, plan_marks, plan_records, plan_counts}

pub plan_encodable : (s : Survey) (marks records : ℕ) → Encodable (plan_refusal s marks records)
unfolding plan_refusal
plan_encodable s marks records =
    encodable_before _ _ (survey_encodable s) λ _. encodable_before _ _ (encodable_refuse _ (at_zero 7 (lit< tt) (lit< tt))) λ _. group_encodable s 8 _ (lit< tt) (lit< tt)

-- What planning leaves is left by its own verdict.
module _ (s : Survey) (marks records : List ℕ) where
  pub marks_left : written (plan_refusal s (length marks) (length records)) (marks_after s marks records) marks ≡ marks_after s marks records
  unfolding marks_after
  marks_left = written_twice _ _ marks

  pub records_left : written (plan_refusal s (length marks) (length records)) (records_after s marks records) records ≡ records_after s marks records
  unfolding records_after
  records_left = written_twice _ _ records

module _ (s : Survey) (marks records counts : List ℕ) where
  pub plan_long : plan_figures ≤ length counts → plan_call s marks records counts ≡ plan_refusal s (length marks) (length records)
  unfolding plan_call plan_refusal
  plan_long h = counts_long s plan_figures (length counts) _ h

  pub plan_short : length counts < plan_figures → plan_call s marks records counts ≡ (survey_refusal s before Refused 7 0)
  unfolding plan_call
  plan_short h = counts_short s plan_figures (length counts) _ h

  pub plan_call_encodable : Encodable (plan_call s marks records counts)
  unfolding plan_call
  plan_call_encodable = counts_encodable s plan_figures (length counts) _ (plan_encodable s (length marks) (length records))

module _ (s : Survey) (marks records counts : List ℕ) where
  module _ (short : length counts < plan_figures) where
    pub plan_short_code : {r : ℕ} → r ≡ code_of (survey_refusal s before Refused 7 0) → r ≡ code_of (plan_call s marks records counts)
    plan_short_code = short_code (survey_refusal s) (plan_short s marks records counts short)

    pub plan_short_marks : marks ≡ plan_marks s marks records counts
    unfolding plan_marks
    plan_short_marks = short_kept (survey_refusal s) (plan_short s marks records counts short) _ marks

    pub plan_short_records : records ≡ plan_records s marks records counts
    unfolding plan_records
    plan_short_records = short_kept (survey_refusal s) (plan_short s marks records counts short) _ records

    pub plan_short_counts : counts ≡ plan_counts s marks records counts
    unfolding plan_counts counts_after
    plan_short_counts = short_kept (survey_refusal s) (plan_short s marks records counts short) _ counts

  module _ (long : plan_figures ≤ length counts) where
    pub plan_marks_law : {l : List ℕ} → l ≡ marks_after s marks records → l ≡ plan_marks s marks records counts
    unfolding plan_marks
    plan_marks_law h = h ∙ sym (ap (λ y. written y (marks_after s marks records) marks) (plan_long s marks records counts long) ∙ marks_left s marks records)

    pub plan_records_law : {l : List ℕ} → l ≡ records_after s marks records → l ≡ plan_records s marks records counts
    unfolding plan_records
    plan_records_law h = h ∙ sym (ap (λ y. written y (records_after s marks records) records) (plan_long s marks records counts long) ∙ records_left s marks records)

    module _ {r : Planned} (answered : plan_outcome r ≡ counting s (length marks) (length records)) where
      pub plan_finished : (k c b n d : ℕ) → r ≡ Finished k c b n d → 0 ≡ code_of (plan_call s marks records counts)
      unfolding counting plan_outcome
      plan_finished k c b n d h = finished_code (plan_long s marks records counts long) _ (sym answered ∙ ap plan_outcome h)

      pub plan_stored : (k c b n d : ℕ) → r ≡ Finished k c b n d → {l : List ℕ} → l ≡ sets counts 0 (k ∷ c ∷ b ∷ n ∷ d ∷ [])
          → l ≡ plan_counts s marks records counts
      unfolding counting plan_outcome plan_counts drawn_figures plan_figures_of
      plan_stored k c b n d h e = finished_counts (plan_long s marks records counts long) _ (sym answered ∙ ap plan_outcome h) plan_figures_of counts e

      pub plan_call_refused : (number place : ℕ) → r ≡ PlanRefused number place → {x : ℕ} → x ≡ capped (number + place_unit * place)
          → x ≡ code_of (plan_call s marks records counts)
      unfolding counting plan_outcome
      plan_call_refused number place h = refused_code (plan_long s marks records counts long) _ (plan_encodable s (length marks) (length records)) number place (sym answered ∙ ap plan_outcome h)

      pub plan_kept : (number place : ℕ) → r ≡ PlanRefused number place → counts ≡ plan_counts s marks records counts
      unfolding counting plan_outcome plan_counts
      plan_kept number place h = refused_counts (plan_long s marks records counts long) _ number place (sym answered ∙ ap plan_outcome h) _ counts
