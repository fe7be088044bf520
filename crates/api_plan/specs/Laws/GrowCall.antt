-- Growing and dropping by cases on the length of the lent counts: long enough, they are the library's own; too short, 1 to 6, 18 and then 7.
use Rattle.std.specs.Prelude.{ℕ, ◌+◌, ◌*◌, ◌<◌, ◌≤◌, ◌^◌, ◌≡◌, List, [], ◌∷◌, length}
use Rattle.std.proofs.Common.{arith, ◌∙◌, lit<}
use Rattle.std.proofs.Math.Path.{ap, sym}
use Rattle.std.proofs.lemmas.List.Edits.{sets}
use Rattle.base_limits.specs.Verdict.{◌before◌, written}
use Rattle.base_limits.specs.declared.Verdict.TheVariants.{Fine, Refused}
use Rattle.survey_core.specs.Survey.{Survey, edge_count}
use Rattle.survey_core.specs.Refusal.{survey_refusal}
use Rattle.survey_core.proofs.Laws.Refusal.{fine_survey}
use Rattle.survey_components.specs.Forest.{loop_refusal}
use Rattle.plan_rule.specs.Growing.{growing, marks_grown}
use Rattle.plan_rule.specs.Dropping.{drop_refusal, dropping, marks_dropped}
use Rattle.plan_rule.specs.Answer.{planned_outcome, dropped_outcome}
use Rattle.plan_rule.specs.declared.Planned.{Planned}
use Rattle.plan_rule.specs.declared.Planned.TheVariants.{Finished, Refused as PlanRefused}
use Rattle.plan_rule.specs.declared.Dropped.{Dropped}
use Rattle.plan_rule.specs.declared.Dropped.TheVariants.{Finished as DropFinished, Refused as DropRefused}
use Rattle.api_code.specs.Code.{place_unit, code_of, capped, counts_after}
use Rattle.api_code.specs.Laws.Encodable.{Encodable, encodable_before, encodable_refuse, encodable_lowest, at_zero, at_place, survey_encodable, group_encodable}
use Rattle.api_code.specs.Laws.Ends.{counts_long, counts_short, counts_encodable}
use Rattle.api_code.specs.Laws.Ends.{short_code, short_kept, written_twice, finished_code, finished_counts, refused_code, refused_counts}
use Rattle.api_plan.specs.Call.{plan_figures, plan_figures_of, plan_call}
use Rattle.api_plan.specs.Laws.Call.{plan_encodable, plan_long, plan_short}
use Rattle.api_plan.specs.GrowCall.{grow_marks, grow_counts, drop_figures, drop_figures_of, drop_call, drop_marks, dropped_counts}

-- ---- growing

module _ (s : Survey) (marks records counts : List ℕ) where
  module _ (short : length counts < plan_figures) where
    pub grow_short_marks : marks ≡ grow_marks s marks records counts
    unfolding grow_marks
    grow_short_marks = short_kept (survey_refusal s) (plan_short s marks records counts short) _ marks

    pub grow_short_counts : counts ≡ grow_counts s marks records counts
    unfolding grow_counts counts_after
    grow_short_counts = short_kept (survey_refusal s) (plan_short s marks records counts short) _ counts

  module _ (long : plan_figures ≤ length counts) where
    pub grow_marks_law : {l : List ℕ} → l ≡ marks_grown s marks records → l ≡ grow_marks s marks records counts
    unfolding grow_marks marks_grown
    grow_marks_law h = h ∙ sym (ap (λ y. written y (marks_grown s marks records) marks) (plan_long s marks records counts long) ∙ written_twice _ _ marks)

    module _ {r : Planned} (answered : planned_outcome r ≡ growing s (length marks) (length records)) where
      pub grow_finished : (k c b n d : ℕ) → r ≡ Finished k c b n d → 0 ≡ code_of (plan_call s marks records counts)
      unfolding growing planned_outcome
      grow_finished k c b n d h = finished_code (plan_long s marks records counts long) _ (sym answered ∙ ap planned_outcome h)

      pub grow_stored : (k c b n d : ℕ) → r ≡ Finished k c b n d → {l : List ℕ} → l ≡ sets counts 0 (k ∷ c ∷ b ∷ n ∷ d ∷ [])
          → l ≡ grow_counts s marks records counts
      unfolding growing planned_outcome grow_counts plan_figures_of
      grow_stored k c b n d h e = finished_counts (plan_long s marks records counts long) _ (sym answered ∙ ap planned_outcome h) plan_figures_of counts e

      pub grow_refused : (number place : ℕ) → r ≡ PlanRefused number place → {x : ℕ} → x ≡ capped (number + place_unit * place)
          → x ≡ code_of (plan_call s marks records counts)
      unfolding growing planned_outcome
      grow_refused number place h = refused_code (plan_long s marks records counts long) _ (plan_encodable s (length marks) (length records)) number place (sym answered ∙ ap planned_outcome h)

      pub grow_kept : (number place : ℕ) → r ≡ PlanRefused number place → counts ≡ grow_counts s marks records counts
      unfolding growing planned_outcome grow_counts
      grow_kept number place h = refused_counts (plan_long s marks records counts long) _ number place (sym answered ∙ ap planned_outcome h) _ counts

-- ---- dropping

pub drop_encodable : (s : Survey) (marks : List ℕ) → Encodable (drop_refusal s marks)
unfolding edge_count drop_refusal loop_refusal
drop_encodable s marks =
    encodable_before _ _ (survey_encodable s) λ fine.
    encodable_before _ _ (encodable_refuse _ (at_zero 9 (lit< tt) (lit< tt))) λ _.
    encodable_before _ _ (encodable_lowest (edge_count s) _ λ e b. encodable_refuse _ (at_place 10 (lit< tt) (lit< tt) (edge fine b))) λ _.
    encodable_before _ _ (encodable_lowest (edge_count s) _ λ e b. encodable_refuse _ (at_place 21 (lit< tt) (lit< tt) (edge fine b))) λ _.
    group_encodable s 14 _ (lit< tt) (lit< tt)
  where
    edge : {e : ℕ} → survey_refusal s ≡ Fine → e < edge_count s → e < 2 ^ 32
    edge fine b = let f = (fine_survey s fine).edges_few in omega arith

module _ (s : Survey) (marks counts : List ℕ) where
  drop_long : drop_figures ≤ length counts → drop_call s marks counts ≡ drop_refusal s marks
  unfolding drop_call drop_refusal
  drop_long h = counts_long s drop_figures (length counts) _ h

  drop_short : length counts < drop_figures → drop_call s marks counts ≡ (survey_refusal s before Refused 7 0)
  unfolding drop_call
  drop_short h = counts_short s drop_figures (length counts) _ h

  pub drop_call_encodable : Encodable (drop_call s marks counts)
  unfolding drop_call
  drop_call_encodable = counts_encodable s drop_figures (length counts) _ (drop_encodable s marks)

  module _ (short : length counts < drop_figures) where
    pub drop_short_code : {r : ℕ} → r ≡ code_of (survey_refusal s before Refused 7 0) → r ≡ code_of (drop_call s marks counts)
    drop_short_code = short_code (survey_refusal s) (drop_short short)

    pub drop_short_marks : marks ≡ drop_marks s marks counts
    unfolding drop_marks
    drop_short_marks = short_kept (survey_refusal s) (drop_short short) _ marks

    pub drop_short_counts : counts ≡ dropped_counts s marks counts
    unfolding dropped_counts counts_after
    drop_short_counts = short_kept (survey_refusal s) (drop_short short) _ counts

  module _ (long : drop_figures ≤ length counts) where
    pub drop_marks_law : {l : List ℕ} → l ≡ marks_dropped s marks → l ≡ drop_marks s marks counts
    unfolding drop_marks marks_dropped
    drop_marks_law h = h ∙ sym (ap (λ y. written y (marks_dropped s marks) marks) (drop_long long) ∙ written_twice _ _ marks)

    module _ {r : Dropped} (answered : dropped_outcome r ≡ dropping s marks) where
      pub drop_finished : (k c : ℕ) → r ≡ DropFinished k c → 0 ≡ code_of (drop_call s marks counts)
      unfolding dropping dropped_outcome
      drop_finished k c h = finished_code (drop_long long) _ (sym answered ∙ ap dropped_outcome h)

      pub drop_stored : (k c : ℕ) → r ≡ DropFinished k c → {l : List ℕ} → l ≡ sets counts 0 (k ∷ c ∷ []) → l ≡ dropped_counts s marks counts
      unfolding dropping dropped_outcome dropped_counts drop_figures_of
      drop_stored k c h e = finished_counts (drop_long long) _ (sym answered ∙ ap dropped_outcome h) drop_figures_of counts e

      pub drop_refused : (number place : ℕ) → r ≡ DropRefused number place → {x : ℕ} → x ≡ capped (number + place_unit * place)
          → x ≡ code_of (drop_call s marks counts)
      unfolding dropping dropped_outcome
      drop_refused number place h = refused_code (drop_long long) _ (drop_encodable s marks) number place (sym answered ∙ ap dropped_outcome h)

      pub drop_kept : (number place : ℕ) → r ≡ DropRefused number place → counts ≡ dropped_counts s marks counts
      unfolding dropping dropped_outcome dropped_counts
      drop_kept number place h = refused_counts (drop_long long) _ number place (sym answered ∙ ap dropped_outcome h) _ counts
