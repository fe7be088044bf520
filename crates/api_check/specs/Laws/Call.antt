-- Checking by cases on the length of the lent counts: long enough, it is the library's own; too short, 1 to 6, 18 and then 7.
use Rattle.std.specs.Prelude.{ℕ, ◌+◌, ◌*◌, ◌<◌, ◌≤◌, ◌^◌, ◌/◌, ◌%◌, ◌≡◌, ◌||◌, not, List, [], ◌∷◌, length, ltb, eqb}
use Rattle.std.proofs.Common.{arith, sym, ◌∙◌, lit<, ltb-false}
use Rattle.std.proofs.Math.Path.{ap}
use Rattle.std.proofs.lemmas.List.Edits.{sets}
use Rattle.base_finite.specs.Laws.Test.{or_false_right}
use Rattle.base_limits.specs.Limits.{max_duals, record_bytes}
use Rattle.base_limits.specs.Verdict.{◌before◌}
use Rattle.base_limits.specs.declared.Verdict.TheVariants.{Fine, Refused}
use Rattle.base_limits.specs.Laws.Verdict.{fine_refuse}
use Rattle.survey_core.specs.Survey.{Survey, edge_count}
use Rattle.survey_core.specs.Refusal.{survey_refusal}
use Rattle.survey_core.proofs.Laws.Refusal.{fine_survey}
use Rattle.check_rule.specs.Check.{check_refusal, shape_refusal, dual_refusal, rule_refusal, checking}
use Rattle.check_core.specs.Stage.{checked_outcome as check_outcome}
use Rattle.check_core.specs.declared.Checking.{Checking}
use Rattle.check_core.specs.declared.Checking.TheVariants.{Passed, Refused as CheckRefused}
use Rattle.api_code.specs.Code.{place_unit, code_of, capped, counts_after}
use Rattle.api_code.specs.Laws.Encodable.{Encodable, encodable_before, encodable_refuse, encodable_lowest, at_zero, at_place, survey_encodable, group_encodable}
use Rattle.api_code.specs.Laws.Ends.{counts_long, counts_short, counts_encodable}
use Rattle.api_code.specs.Laws.Ends.{short_code, short_kept, finished_code, finished_counts, refused_code, refused_counts}
use Rattle.api_check.specs.Call.{check_figures, check_figures_of, check_call, check_counts}

pub check_encodable : (s : Survey) (marks records : List ℕ) → Encodable (check_refusal s marks records)
unfolding edge_count check_refusal shape_refusal dual_refusal rule_refusal
check_encodable s marks records =
    encodable_before _ _ (survey_encodable s) λ fine.
    encodable_before _ _ (encodable_refuse _ (at_zero 9 (lit< tt) (lit< tt))) λ shaped.
    encodable_before _ _ (encodable_lowest (edge_count s) _ λ e b. encodable_refuse _ (at_place 10 (lit< tt) (lit< tt) (edge fine b))) λ _.
    encodable_before _ _ (encodable_lowest (length records / record_bytes) _ λ i b. encodable_refuse _ (at_place 11 (lit< tt) (lit< tt) (dual shaped b))) λ _.
    encodable_before _ _ (encodable_lowest (length records / record_bytes) _ λ i b. encodable_refuse _ (at_place 12 (lit< tt) (lit< tt) (dual shaped b))) λ _.
    encodable_before _ _ (encodable_lowest (edge_count s) _ λ e b. encodable_refuse _ (at_place 13 (lit< tt) (lit< tt) (edge fine b))) λ _.
    encodable_before _ _ (group_encodable s 14 _ (lit< tt) (lit< tt)) λ _.
    encodable_refuse _ (at_zero 15 (lit< tt) (lit< tt))
  where
    edge : {e : ℕ} → survey_refusal s ≡ Fine → e < edge_count s → e < 2 ^ 32
    edge fine b = let f = (fine_survey s fine).edges_few in omega arith

    dual : {i : ℕ} → shape_refusal s marks records ≡ Fine → i < length records / record_bytes → i < 2 ^ 32
    dual shaped b =
        let few = or_false_right (not (eqb (length marks) (length s.firsts)) || not (eqb (length records % record_bytes) 0)) (ltb max_duals (length records / record_bytes)) (fine_refuse _ 9 0 shaped) in
        let l = ltb-false max_duals (length records / record_bytes) few in
        omega arith

module _ (s : Survey) (marks records counts : List ℕ) where
  check_long : check_figures ≤ length counts → check_call s marks records counts ≡ check_refusal s marks records
  unfolding check_call check_refusal
  check_long h = counts_long s check_figures (length counts) _ h

  check_short : length counts < check_figures → check_call s marks records counts ≡ (survey_refusal s before Refused 7 0)
  unfolding check_call
  check_short h = counts_short s check_figures (length counts) _ h

  pub check_call_encodable : Encodable (check_call s marks records counts)
  unfolding check_call
  check_call_encodable = counts_encodable s check_figures (length counts) _ (check_encodable s marks records)

  module _ (short : length counts < check_figures) where
    pub check_short_code : {r : ℕ} → r ≡ code_of (survey_refusal s before Refused 7 0) → r ≡ code_of (check_call s marks records counts)
    check_short_code = short_code (survey_refusal s) (check_short short)

    pub check_short_counts : counts ≡ check_counts s marks records counts
    unfolding check_counts counts_after
    check_short_counts = short_kept (survey_refusal s) (check_short short) _ counts

  module _ (long : check_figures ≤ length counts) {r : Checking} (answered : check_outcome r ≡ checking s marks records) where
    pub check_passed : (k c b : ℕ) → r ≡ Passed k c b → 0 ≡ code_of (check_call s marks records counts)
    unfolding checking check_outcome
    check_passed k c b h = finished_code (check_long long) _ (sym answered ∙ ap check_outcome h)

    pub check_stored : (k c b : ℕ) → r ≡ Passed k c b → {l : List ℕ} → l ≡ sets counts 0 (k ∷ c ∷ b ∷ []) → l ≡ check_counts s marks records counts
    unfolding checking check_outcome check_counts check_figures_of
    check_stored k c b h e = finished_counts (check_long long) _ (sym answered ∙ ap check_outcome h) check_figures_of counts e

    pub check_call_refused : (number place : ℕ) → r ≡ CheckRefused number place → {x : ℕ} → x ≡ capped (number + place_unit * place)
        → x ≡ code_of (check_call s marks records counts)
    unfolding checking check_outcome
    check_call_refused number place h = refused_code (check_long long) _ (check_encodable s marks records) number place (sym answered ∙ ap check_outcome h)

    pub check_kept : (number place : ℕ) → r ≡ CheckRefused number place → counts ≡ check_counts s marks records counts
    unfolding checking check_outcome check_counts
    check_kept number place h = refused_counts (check_long long) _ number place (sym answered ∙ ap check_outcome h) _ counts
