-- The handset answers what the library answers: verdict, marks, records and every count that eight bytes spell; and
-- what stands in its buffers after an answer 0 obeys the accuracy rule (the buyer's demand 3).
use Rattle.std.specs.Prelude.{ℕ, zero, suc, ◌+◌, ◌*◌, ◌%◌, ◌≤◌, ◌<◌, ◌^◌, ◌≡◌, false, length, get_or, take}
use Rattle.std.proofs.Common.{arith, ◌∙◌, subst, take_at, drop_at, lit<, eq-eqb}
use Rattle.std.proofs.Math.Path.{ap, sym}
use mathlib.Core.List.{List, [], ◌∷◌, ◌++◌, append_assoc}
use Rattle.std.proofs.Math.ListN.{drop}
use Rattle.std.proofs.lemmas.List.Edits.{sets, sets-eq}
use Rattle.std.proofs.Math.Seq.{drop-append-add}
use Rattle.base_limits.specs.Limits.{record_bytes}
use Rattle.base_limits.specs.Verdict.{◌before◌, written, answer, outcome}
use Rattle.base_limits.specs.declared.Verdict.{Verdict}
use Rattle.base_limits.specs.declared.Verdict.TheVariants.{Fine}
use Rattle.base_limits.specs.Laws.Verdict.{before_fine, before_none, fine_left, fine_right, refuse_false, answer_fine, refusal_found}
use Rattle.format_record.specs.Bits.{number_of, low_bytes}
use Rattle.format_record.proofs.Laws.Bytes.{length_low, number_of_low}
use Rattle.survey_core.specs.Survey.{Survey, edge_count, problem_of}
use Rattle.survey_core.specs.Sound.{ByteGroups}
use Rattle.survey_core.specs.Refusal.{survey_refusal}
use Rattle.check_rule.specs.Check.{Checked, dual_at, check_refusal, checked_of, checking}
use Rattle.check_rule.proofs.Laws.Accuracy.{checking_passing, checking_accurate, checking_bound}
use Rattle.check_core.specs.Moats.{DualsFit}
use Rattle.check_core.specs.Stage.{CountsFit}
use Rattle.check_core.specs.Laws.Counts.{counts_fit}
use Rattle.plan_draw.specs.Drawing.{records_of}
use Rattle.plan_draw.proofs.Laws.Drawing.{length_records}
use Rattle.plan_rule.specs.Plan.{PlanCounts, plan_refusal, plan_of, plan_counts_of, counting, marks_after, records_after}
use Rattle.plan_rule.specs.Promise.{Ready, FinishedPlan}
use Rattle.plan_rule.proofs.Laws.Ready.{fine_ready}
use Rattle.plan_rule.proofs.Laws.Passes.{finished_passing, finished_passes}
use Rattle.plan_rule.proofs.Laws.Promise.{counting_finished}
use Rattle.api_code.specs.Code.{code_of, with_counts}
use Rattle.api_code.specs.Laws.Encodable.{Encodable, encodable_before, encodable_refuse, at_zero, code_zero, zero_code}
use Rattle.api_code.specs.Laws.Ends.{counts_long, counts_encodable}
use Rattle.api_plan.specs.Call.{plan_figures_of, drawn_figures}
use Rattle.api_plan.specs.Laws.Call.{plan_encodable, marks_left, records_left}
use Rattle.api_check.specs.Call.{check_figures_of}
use Rattle.api_check.specs.Laws.Call.{check_encodable}
use Rattle.api_handset.specs.Words.{word_bytes, figure_bytes, spelled_counts}
use Rattle.api_handset.specs.Slices.{Slices, survey_spelled, size_refusal, is_ragged, any_ragged, ragged_refusal}
use Rattle.api_handset.specs.Call.{plan_bytes, check_bytes, result_after, check_with, handset_check, handset_check_result}
use Rattle.api_handset.specs.Call.{plan_with, handset_plan, handset_marks, handset_records, handset_plan_result}
use Rattle.api_handset.proofs.Laws.Words.{length_spelled}
use Rattle.api_handset.proofs.Laws.Crossing.{size_first}
use Rattle.theorems.specs.Calls.{figure_in, planned_spelled, checked_spelled}
use Rattle.theorems.specs.Handset.{Whole, LibraryPlans, LibraryChecks, HandsetPlanStands, HandsetCheckStands}
use Rattle.theorems.proofs.Laws.Passes.{rounds_few}
use Rattle.theorems.proofs.Laws.Calls.{counts_fine, fine_counts}

-- ---- counts that eight bytes spell

-- Count i of counts that stand one after the other, if it fits.
spelled_at : (figures rest : List ℕ) (i : ℕ) → i < length figures → get_or figures i 0 < 256 ^ figure_bytes → figure_in (spelled_counts figures ++ rest) i ≡ get_or figures i 0
unfolding spelled_counts
spelled_at [] rest i b fits = absurd (omega arith)
spelled_at (x ∷ xs) rest zero b fits =
    ap (λ (l : List ℕ). number_of (take figure_bytes l)) (append_assoc (low_bytes figure_bytes x) (spelled_counts xs) rest)
    ∙ ap number_of (take_at (low_bytes figure_bytes x) (spelled_counts xs ++ rest) figure_bytes (length_low figure_bytes x))
    ∙ number_of_low figure_bytes x fits
spelled_at (x ∷ xs) rest (suc i) b fits =
    let low = low_bytes figure_bytes x in
    let long : length low ≡ figure_bytes = length_low figure_bytes x in
    let e : figure_bytes * suc i ≡ length low + figure_bytes * i = omega arith in
    ap (λ (k : ℕ). number_of (take figure_bytes (drop k ((low ++ spelled_counts xs) ++ rest)))) e
    ∙ ap (λ (l : List ℕ). number_of (take figure_bytes (drop (length low + figure_bytes * i) l))) (append_assoc low (spelled_counts xs) rest)
    ∙ ap (λ (l : List ℕ). number_of (take figure_bytes l)) (drop-append-add low (spelled_counts xs ++ rest) (figure_bytes * i))
    ∙ spelled_at xs rest i (omega arith) fits

module _ (result figures : List ℕ) (fits : figure_bytes * length figures ≤ length result) where
  stored_is : sets result 0 (spelled_counts figures) ≡ spelled_counts figures ++ drop (figure_bytes * length figures) result
  stored_is =
      let long = length_spelled figures in
      sets-eq (spelled_counts figures) result 0 (omega arith) ∙ ap (λ (k : ℕ). spelled_counts figures ++ drop k result) (let e : 0 + length (spelled_counts figures) ≡ figure_bytes * length figures = omega arith in e)

  figure_stored : (i : ℕ) → i < length figures → get_or figures i 0 < 256 ^ figure_bytes → figure_in (sets result 0 (spelled_counts figures)) i ≡ get_or figures i 0
  figure_stored i b small = ap (λ (l : List ℕ). figure_in l i) stored_is ∙ spelled_at figures (drop (figure_bytes * length figures) result) i b small

  behind_stored : drop (figure_bytes * length figures) (sets result 0 (spelled_counts figures)) ≡ drop (figure_bytes * length figures) result
  behind_stored =
      ap (λ (l : List ℕ). drop (figure_bytes * length figures) l) stored_is
      ∙ drop_at (spelled_counts figures) (drop (figure_bytes * length figures) result) (figure_bytes * length figures) (length_spelled figures)

result_stored : {v : Verdict} → v ≡ Fine → (figures result : List ℕ) → result_after v figures result ≡ sets result 0 (spelled_counts figures)
unfolding result_after written
result_stored h figures result = ap (λ v. written v (sets result 0 (spelled_counts figures)) result) h

-- ---- counts fit eight bytes

-- k, cost and bound of what passes.
record Words (c : Checked) : Type 0 where
  terminals : c.terminals < 256 ^ figure_bytes
  cost : c.cost < 256 ^ figure_bytes
  bound : c.bound < 256 ^ figure_bytes

checked_words : (s : Survey) → ByteGroups s → (marks records : List ℕ) (c : Checked) → checking s marks records ≡ answer c → Words c
unfolding checking checked_of dual_at
checked_words s numbered marks records c h =
    let p = (checking_passing s numbered marks records).0 c h in
    let fit : DualsFit records = record { few = p.records_few; small = λ i b. (p.duals_sound i b).small } in
    let same : checked_of s marks records ≡ c = (answer_fine (check_refusal s marks records) (checked_of s marks records) c h).1 in
    let counts : CountsFit c.terminals c.cost c.bound =
    subst (λ (x : Checked). CountsFit x.terminals x.cost x.bound) same (counts_fit s marks records p.survey fit) in
    let k = counts.terminals_few in
    let x = counts.cost_small in
    let b = counts.bound_small in
    record { terminals = omega arith; cost = omega arith; bound = omega arith }

-- And of a finished plan, with rounds and number of moats.
module _ (s : Survey) (numbered : ByteGroups s) (marks_length records_length : ℕ) (fine : plan_refusal s marks_length records_length ≡ Fine) where
  ready : Ready s marks_length records_length
  ready = fine_ready s numbered marks_length records_length fine

  plan_words_law : Words (record { terminals = (plan_of (problem_of s)).terminals; cost = (plan_of (problem_of s)).cost; bound = (plan_of (problem_of s)).bound })
  plan_words_law =
      checked_words s numbered (plan_of (problem_of s)).marks (records_of (plan_of (problem_of s)).duals) _ (finished_passes s ready.survey ready.joinable numbered)

  rounds_word : (plan_of (problem_of s)).rounds < 256 ^ figure_bytes
  rounds_word = let r = rounds_few s ready.survey in omega arith

  duals_word : length (plan_of (problem_of s)).duals < 256 ^ figure_bytes
  duals_word =
      let few = (finished_passing s ready.survey ready.joinable).records_few in
      let long = length_records (plan_of (problem_of s)).duals in
      omega arith

  planned_spelled_law : (result : List ℕ) → plan_bytes ≤ length result → planned_spelled (sets result 0 (spelled_counts (drawn_figures s))) ≡ plan_counts_of (plan_of (problem_of s))
  unfolding drawn_figures plan_figures_of plan_counts_of
  planned_spelled_law result long =
      let figures = drawn_figures s in
      rw (
        figure_stored result figures long 0 (lit< tt) plan_words_law.terminals,
        figure_stored result figures long 1 (lit< tt) plan_words_law.cost,
        figure_stored result figures long 2 (lit< tt) plan_words_law.bound,
        figure_stored result figures long 3 (lit< tt) rounds_word,
        figure_stored result figures long 4 (lit< tt) duals_word,
      )

checked_spelled_law : (s : Survey) → ByteGroups s → (marks records : List ℕ) (c : Checked) → checking s marks records ≡ answer c → (result : List ℕ) → check_bytes ≤ length result
    → checked_spelled (sets result 0 (spelled_counts (check_figures_of (checked_of s marks records)))) ≡ checked_of s marks records
unfolding checking check_figures_of checked_of
checked_spelled_law s numbered marks records c h result long =
    let figures = check_figures_of (checked_of s marks records) in
    let same : checked_of s marks records ≡ c = (answer_fine (check_refusal s marks records) (checked_of s marks records) c h).1 in
    let words : Words (checked_of s marks records) = subst (λ (x : Checked). Words x) (sym same) (checked_words s numbered marks records c h) in
    rw (
      figure_stored result figures long 0 (lit< tt) words.terminals,
      figure_stored result figures long 1 (lit< tt) words.cost,
      figure_stored result figures long 2 (lit< tt) words.bound,
    )

-- ---- with the library's answers

whole_even : (long : ℕ) → long % word_bytes ≡ 0 → is_ragged long ≡ false
unfolding is_ragged
whole_even long h = rw (eq-eqb (long % word_bytes) 0 h)

-- Of whole slices only 1 can be refused before the survey is looked at, and the survey is refused for that too.
whole_size : (b : Slices) → Whole b → ragged_refusal b ≡ size_refusal (length b.groups)
unfolding ragged_refusal any_ragged
whole_size b w =
    ap (λ v. size_refusal (length b.groups) before v)
    (refuse_false
    (rw (
      whole_even (length b.firsts) w.firsts_whole,
      whole_even (length b.seconds) w.seconds_whole,
      whole_even (length b.weights) w.weights_whole,
      whole_even (length b.owners) w.owners_whole,
    ))
    2 0)
    ∙ before_none (size_refusal (length b.groups))

whole_first : (b : Slices) → Whole b → (w : Verdict) → (ragged_refusal b before survey_refusal (survey_spelled b) before w) ≡ (survey_refusal (survey_spelled b) before w)
unfolding survey_spelled
whole_first b whole w = ap (λ v. v before survey_refusal (survey_spelled b) before w) (whole_size b whole) ∙ size_first (survey_spelled b) w

module _ (b : Slices) (whole : Whole b) (marks records result : List ℕ) where
  plan_verdict : plan_bytes ≤ length result → handset_plan b marks records result ≡ plan_refusal (survey_spelled b) (length marks) (length records)
  unfolding handset_plan plan_with with_counts plan_refusal
  plan_verdict long = whole_first b whole _ ∙ counts_long (survey_spelled b) plan_bytes (length result) _ long

  check_verdict : check_bytes ≤ length result → handset_check b marks records result ≡ check_refusal (survey_spelled b) marks records
  unfolding handset_check check_with with_counts check_refusal
  check_verdict long = whole_first b whole _ ∙ counts_long (survey_spelled b) check_bytes (length result) _ long

  module _ (numbered : ByteGroups (survey_spelled b)) where
    pub library_plans : plan_bytes ≤ length result → LibraryPlans b marks records result
    unfolding handset_marks handset_records marks_after records_after drawn_figures plan_figures_of counting handset_plan_result result_after written
    library_plans long =
        let s = survey_spelled b in
        let v = plan_verdict long in
        let found : (c : PlanCounts) → counting s (length marks) (length records) ≡ answer c
        → (plan_refusal s (length marks) (length records) ≡ Fine) × (plan_counts_of (plan_of (problem_of s)) ≡ c) = λ c h.
        answer_fine (plan_refusal s (length marks) (length records)) (plan_counts_of (plan_of (problem_of s))) c h in
        record {
          verdict = v;
          marks_are = ap (λ x. written x (marks_after s marks records) marks) v ∙ marks_left s marks records;
          records_are = ap (λ x. written x (records_after s marks records) records) v ∙ records_left s marks records;
          counts_are = λ c h.
              let f = found c h in
              ap (λ (l : List ℕ). planned_spelled l) (result_stored (v ∙ f.0) (drawn_figures s) result)
              ∙ planned_spelled_law s numbered (length marks) (length records) f.0 result long
              ∙ f.1;
          behind = λ c h.
              ap (λ (l : List ℕ). drop plan_bytes l) (result_stored (v ∙ (found c h).0) (drawn_figures s) result) ∙ behind_stored result (drawn_figures s) long;
          kept = λ number place h.
              ap (λ x. result_after x (drawn_figures s) result)
              (v ∙ refusal_found (plan_refusal s (length marks) (length records)) (plan_counts_of (plan_of (problem_of s))) h);
        }

    pub library_checks : check_bytes ≤ length result → LibraryChecks b marks records result
    unfolding checking check_figures_of handset_check_result result_after written
    library_checks long =
        let s = survey_spelled b in
        let v = check_verdict long in
        let figures = check_figures_of (checked_of s marks records) in
        record {
          verdict = v;
          counts_are = λ c h.
              let f = answer_fine (check_refusal s marks records) (checked_of s marks records) c h in
              ap (λ (l : List ℕ). checked_spelled l) (result_stored (v ∙ f.0) figures result)
              ∙ checked_spelled_law s numbered marks records c h result long
              ∙ f.1;
          behind = λ c h.
              let f = answer_fine (check_refusal s marks records) (checked_of s marks records) c h in
              ap (λ (l : List ℕ). drop check_bytes l) (result_stored (v ∙ f.0) figures result) ∙ behind_stored result figures long;
          kept = λ number place h.
              ap (λ x. result_after x figures result) (v ∙ refusal_found (check_refusal s marks records) (checked_of s marks records) h);
        }

-- ---- answer 0

ragged_encodable : (b : Slices) → Encodable (ragged_refusal b)
unfolding ragged_refusal size_refusal
ragged_encodable b = encodable_before _ _ (encodable_refuse _ (at_zero 1 (lit< tt) (lit< tt))) λ _. encodable_refuse _ (at_zero 2 (lit< tt) (lit< tt))

module _ (b : Slices) (marks records result : List ℕ) where
  -- What an answer 0 leaves of the tests.
  module _ (none : code_of (handset_check b marks records result) ≡ 0) where
    check_fine : handset_check b marks records result ≡ Fine
    unfolding handset_check check_with
    check_fine =
        code_zero (handset_check b marks records result)
        (encodable_before _ _ (ragged_encodable b) λ _. counts_encodable (survey_spelled b) check_bytes (length result) _ (check_encodable (survey_spelled b) marks records)) none

    check_parts : (check_bytes ≤ length result) × (check_refusal (survey_spelled b) marks records ≡ Fine)
    unfolding handset_check check_with
    check_parts = counts_fine (survey_spelled b) check_bytes (length result) (check_refusal (survey_spelled b) marks records) (fine_right (ragged_refusal b) _ check_fine)

    check_counts_law : ByteGroups (survey_spelled b) → checked_spelled (handset_check_result b marks records result) ≡ checked_of (survey_spelled b) marks records
    unfolding handset_check_result checking outcome
    check_counts_law numbered =
        ap (λ (l : List ℕ). checked_spelled l) (result_stored check_fine (check_figures_of (checked_of (survey_spelled b) marks records)) result)
        ∙ checked_spelled_law (survey_spelled b) numbered marks records (checked_of (survey_spelled b) marks records)
        (ap (λ v. outcome v (checked_of (survey_spelled b) marks records)) check_parts.1) result check_parts.0

    checked_call : ByteGroups (survey_spelled b) → checking (survey_spelled b) marks records ≡ answer (checked_spelled (handset_check_result b marks records result))
    unfolding checking outcome
    checked_call numbered =
        ap (λ v. outcome v (checked_of (survey_spelled b) marks records)) check_parts.1 ∙ ap (λ (c : Checked). answer c) (sym (check_counts_law numbered))

    pub handset_check_stands : ByteGroups (survey_spelled b) → HandsetCheckStands b marks records (handset_check_result b marks records result)
    handset_check_stands numbered =
        let s = survey_spelled b in
        let c = checked_spelled (handset_check_result b marks records result) in
        record {
          passing = (checking_passing s numbered marks records).0 c (checked_call numbered);
          accurate = checking_accurate s numbered marks records c (checked_call numbered);
          bounded = checking_bound s numbered marks records c (checked_call numbered);
        }

answer_same : {a b : Checked} → answer a ≡ answer b → a ≡ b
answer_same h = cc

module _ (b : Slices) (marks records result : List ℕ) (none : code_of (handset_plan b marks records result) ≡ 0) where
  plan_fine : handset_plan b marks records result ≡ Fine
  unfolding handset_plan plan_with
  plan_fine =
      code_zero (handset_plan b marks records result)
      (encodable_before _ _ (ragged_encodable b) λ _. counts_encodable (survey_spelled b) plan_bytes (length result) _ (plan_encodable (survey_spelled b) (length marks) (length records))) none

  plan_parts : (plan_bytes ≤ length result) × (plan_refusal (survey_spelled b) (length marks) (length records) ≡ Fine)
  unfolding handset_plan plan_with
  plan_parts =
      counts_fine (survey_spelled b) plan_bytes (length result) (plan_refusal (survey_spelled b) (length marks) (length records)) (fine_right (ragged_refusal b) _ plan_fine)

  unragged : ragged_refusal b ≡ Fine
  unfolding handset_plan
  unragged = fine_left (ragged_refusal b) _ plan_fine

  -- What passes the checker passes the handset's checking call on the same slices.
  passed_across : (m r lent : List ℕ) (c : Checked) → checking (survey_spelled b) m r ≡ answer c → check_bytes ≤ length lent → code_of (handset_check b m r lent) ≡ 0
  unfolding checking handset_check check_with check_refusal
  passed_across m r lent c h long =
      let s = survey_spelled b in
      let fine = (answer_fine (check_refusal s m r) (checked_of s m r) c h).0 in
      zero_code (before_fine unragged _ ∙ fine_counts s check_bytes (length lent) (check_refusal s m r) long (fine_left (survey_refusal s) _ fine) fine)

  module _ (numbered : ByteGroups (survey_spelled b)) where
    plan_counts_law : planned_spelled (handset_plan_result b marks records result) ≡ plan_counts_of (plan_of (problem_of (survey_spelled b)))
    unfolding handset_plan_result
    plan_counts_law =
        ap (λ (l : List ℕ). planned_spelled l) (result_stored plan_fine (drawn_figures (survey_spelled b)) result)
        ∙ planned_spelled_law (survey_spelled b) numbered (length marks) (length records) plan_parts.1 result plan_parts.0

    plan_finished : FinishedPlan (survey_spelled b) marks records (planned_spelled (handset_plan_result b marks records result))
    unfolding counting outcome
    plan_finished =
        counting_finished (survey_spelled b) numbered marks records (planned_spelled (handset_plan_result b marks records result))
        (ap (λ v. outcome v (plan_counts_of (plan_of (problem_of (survey_spelled b))))) plan_parts.1 ∙ ap (λ (c : PlanCounts). answer c) (sym plan_counts_law))

    plan_marks_law : marks_after (survey_spelled b) marks records ≡ handset_marks b marks records result
    unfolding handset_marks written
    plan_marks_law = sym (ap (λ v. written v (marks_after (survey_spelled b) marks records) marks) plan_fine)

    plan_records_law : records_after (survey_spelled b) marks records ≡ handset_records b marks records result
    unfolding handset_records written
    plan_records_law = sym (ap (λ v. written v (records_after (survey_spelled b) marks records) records) plan_fine)

    plan_passes : checking (survey_spelled b) (take (edge_count (survey_spelled b)) (handset_marks b marks records result))
        (take (record_bytes * figure_in (handset_plan_result b marks records result) 4) (handset_records b marks records result))
        ≡ answer (checked_spelled (handset_plan_result b marks records result))
    plan_passes = rw (← plan_marks_law, ← plan_records_law) plan_finished.passes_checker

    pub handset_plan_stands : HandsetPlanStands b marks records (handset_marks b marks records result) (handset_records b marks records result) (handset_plan_result b marks records result)
    handset_plan_stands =
        record {
          finished = plan_finished;
          accurate = plan_finished.accuracy;
          bounded = plan_finished.bound_halved;
          passes = λ lent long. passed_across _ _ lent (checked_spelled (handset_plan_result b marks records result)) plan_passes long;
          same = λ lent long.
              answer_same
              (sym
              (checked_call b _ _ lent (passed_across _ _ lent (checked_spelled (handset_plan_result b marks records result)) plan_passes long) numbered)
              ∙ plan_passes);
        }
