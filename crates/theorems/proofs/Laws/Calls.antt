-- One law for each call with lent counts: answer 0, and what now stands in the buffers obeys the accuracy rule (the
-- buyer's demand 3). What planning wrote passes the checking call; growing and then dropping leave what planning
-- leaves; a stored reason is true of the growth.
use Rattle.std.specs.Prelude.{ℕ, ◌+◌, ◌*◌, ◌≤◌, ◌<◌, ◌^◌, ◌≡◌, refl, length, get_or, ltb}
use Rattle.std.proofs.Common.{arith, ◌∙◌, subst, lit<, ltb-false, le-ltb}
use Rattle.std.proofs.Math.Path.{ap, ap₂, sym}
use mathlib.Core.List.{List, [], ◌∷◌, ◌++◌}
use Rattle.std.proofs.Math.ListN.{take, drop, get_or-append}
use Rattle.std.proofs.lemmas.List.Edits.{sets, sets-eq}
use Rattle.base_limits.specs.Limits.{record_bytes}
use Rattle.base_limits.specs.Verdict.{refuse_if, written, answer, outcome}
use Rattle.base_limits.specs.declared.Verdict.{Verdict}
use Rattle.base_limits.specs.declared.Verdict.TheVariants.{Fine}
use Rattle.base_limits.specs.Laws.Verdict.{before_fine, fine_left, fine_right, refuse_false, fine_refuse, answer_fine}
use Rattle.survey_core.specs.Survey.{Survey, edge_count, problem_of}
use Rattle.survey_core.specs.Sound.{ByteGroups}
use Rattle.survey_core.specs.Refusal.{survey_refusal}
use Rattle.check_rule.specs.Check.{Checked, check_refusal, checked_of, checking}
use Rattle.check_rule.proofs.Laws.Accuracy.{checking_passing, checking_accurate, checking_bound}
use Rattle.plan_rule.specs.Plan.{PlanCounts, plan_refusal, plan_of, plan_counts_of, counting}
use Rattle.plan_rule.specs.Promise.{FinishedPlan}
use Rattle.plan_rule.specs.Growing.{grown_counts_of, marks_grown}
use Rattle.plan_rule.specs.Dropping.{DropCounts, drop_refusal, drop_counts_of, dropping, marks_dropped}
use Rattle.plan_rule.specs.DropPromise.{DroppedMarks}
use Rattle.plan_rule.specs.Stages.{grown_part}
use Rattle.plan_rule.proofs.Laws.Promise.{counting_finished}
use Rattle.plan_rule.proofs.Laws.Dropping.{dropping_promises}
use Rattle.plan_rule.proofs.Laws.Stages.{part_drops, stages_marks}
use Rattle.why_rule.specs.Reason.{reason_of}
use Rattle.why_rule.specs.Why.{WhyCounts, why_counts, why_refusal, reasoning}
use Rattle.why_rule.specs.Promise.{GivenReason}
use Rattle.why_rule.proofs.Laws.Promise.{why_promises}
use Rattle.api_code.specs.Code.{code_of, with_counts, counts_after}
use Rattle.api_code.specs.Laws.Encodable.{code_zero, zero_code}
use Rattle.api_plan.specs.Call.{plan_figures, plan_figures_of, plan_call, drawn_figures, plan_marks, plan_records, plan_counts}
use Rattle.api_plan.specs.GrowCall.{grow_counts, drop_figures, drop_figures_of, drop_call, drop_marks, dropped_counts}
use Rattle.api_plan.specs.Laws.Call.{plan_call_encodable, plan_marks_law, plan_records_law}
use Rattle.api_plan.specs.Laws.GrowCall.{drop_call_encodable, grow_marks_law, drop_marks_law}
use Rattle.api_check.specs.Call.{check_figures, check_figures_of, check_call, check_counts}
use Rattle.api_check.specs.Laws.Call.{check_call_encodable}
use Rattle.api_why.specs.Call.{why_figures, why_call, why_route, why_figured}
use Rattle.api_why.specs.Stored.{why_figures_of}
use Rattle.api_why.specs.Laws.Call.{why_call_encodable, why_route_law}
use Rattle.theorems.specs.Calls.{planned_in, checked_in, dropped_in, asked_in, PlanStands, CheckStands, DropStands, grown_picks, both_counts, StagesStand}

-- ---- a call with lent counts

pub counts_fine : (s : Survey) (wanted long : ℕ) (rest : Verdict) → with_counts s wanted long rest ≡ Fine → (wanted ≤ long) × (rest ≡ Fine)
unfolding with_counts
counts_fine s wanted long rest h =
    let later = fine_right (survey_refusal s) _ h in
    (ltb-false long wanted (fine_refuse (ltb long wanted) 7 0 (fine_left (refuse_if (ltb long wanted) 7 0) rest later)), fine_right (refuse_if (ltb long wanted) 7 0) rest later)

pub fine_counts : (s : Survey) (wanted long : ℕ) (rest : Verdict) → wanted ≤ long → survey_refusal s ≡ Fine → rest ≡ Fine → with_counts s wanted long rest ≡ Fine
unfolding with_counts
fine_counts s wanted long rest fits sound fine = before_fine sound _ ∙ before_fine (refuse_false (le-ltb long wanted fits) 7 0) rest ∙ fine

-- Figures that were stored stand at their places.
stored_at : (counts figures : List ℕ) → length figures ≤ length counts → (i : ℕ) → i < length figures → get_or (sets counts 0 figures) i 0 ≡ get_or figures i 0
stored_at counts figures fits i b =
    ap (λ (l : List ℕ). get_or l i 0) (sets-eq figures counts 0 (omega arith)) ∙ get_or-append figures (drop (0 + length figures) counts) 0 i b

stored_counts : {v : Verdict} → v ≡ Fine → (figures counts : List ℕ) → counts_after v figures counts ≡ sets counts 0 figures
unfolding counts_after written
stored_counts h figures counts = ap (λ v. written v (sets counts 0 figures) counts) h

module _ (counts : List ℕ) (k c b r d : ℕ) where
  planned_stored : plan_figures ≤ length counts → planned_in (sets counts 0 (k ∷ c ∷ b ∷ r ∷ d ∷ [])) ≡ record { terminals = k; cost = c; bound = b; rounds = r; duals = d }
  planned_stored fits =
      let figures = k ∷ c ∷ b ∷ r ∷ d ∷ [] in
      rw (
        stored_at counts figures fits 0 (lit< tt),
        stored_at counts figures fits 1 (lit< tt),
        stored_at counts figures fits 2 (lit< tt),
        stored_at counts figures fits 3 (lit< tt),
        stored_at counts figures fits 4 (lit< tt),
      )

pub checked_stored : (counts : List ℕ) (k c b : ℕ) → check_figures ≤ length counts → checked_in (sets counts 0 (k ∷ c ∷ b ∷ [])) ≡ record { terminals = k; cost = c; bound = b }
checked_stored counts k c b fits =
    let figures = k ∷ c ∷ b ∷ [] in
    rw (stored_at counts figures fits 0 (lit< tt), stored_at counts figures fits 1 (lit< tt), stored_at counts figures fits 2 (lit< tt))

dropped_stored : (counts : List ℕ) (k c : ℕ) → drop_figures ≤ length counts → dropped_in (sets counts 0 (k ∷ c ∷ [])) ≡ record { terminals = k; cost = c }
dropped_stored counts k c fits =
    let figures = k ∷ c ∷ [] in
    rw (stored_at counts figures fits 0 (lit< tt), stored_at counts figures fits 1 (lit< tt))

-- ---- checking

-- What passes the checker passes the call, which stores what the checker found.
module _ (s : Survey) (marks records lent : List ℕ) (c : Checked) (h : checking s marks records ≡ answer c) (long : check_figures ≤ length lent) where
  found : (check_refusal s marks records ≡ Fine) × (checked_of s marks records ≡ c)
  unfolding checking
  found = answer_fine (check_refusal s marks records) (checked_of s marks records) c h

  passed_call : check_call s marks records lent ≡ Fine
  unfolding check_call check_refusal
  passed_call = fine_counts s check_figures (length lent) (check_refusal s marks records) long (fine_left (survey_refusal s) _ found.0) found.0

  pub passed_code : code_of (check_call s marks records lent) ≡ 0
  passed_code = zero_code passed_call

  pub passed_counts : checked_in (check_counts s marks records lent) ≡ c
  unfolding check_counts check_figures_of checked_of
  passed_counts =
      ap (λ (l : List ℕ). checked_in l) (stored_counts passed_call (check_figures_of (checked_of s marks records)) lent)
      ∙ checked_stored lent _ _ _ long
      ∙ found.1

-- The checking call answered 0.
module _ (s : Survey) (marks records counts : List ℕ) (zero : code_of (check_call s marks records counts) ≡ 0) where
  check_fine : check_call s marks records counts ≡ Fine
  check_fine = code_zero (check_call s marks records counts) (check_call_encodable s marks records counts) zero

  check_parts : (check_figures ≤ length counts) × (check_refusal s marks records ≡ Fine)
  unfolding check_call
  check_parts = counts_fine s check_figures (length counts) (check_refusal s marks records) check_fine

  check_counts_law : checked_in (check_counts s marks records counts) ≡ checked_of s marks records
  unfolding check_counts check_figures_of checked_of
  check_counts_law =
      ap (λ (l : List ℕ). checked_in l) (stored_counts check_fine (check_figures_of (checked_of s marks records)) counts) ∙ checked_stored counts _ _ _ check_parts.0

  pub checked_call : checking s marks records ≡ answer (checked_in (check_counts s marks records counts))
  unfolding checking outcome
  checked_call =
      ap (λ v. outcome v (checked_of s marks records)) check_parts.1 ∙ ap (λ (c : Checked). answer c) (sym check_counts_law)

  pub check_stands : ByteGroups s → CheckStands s marks records (check_counts s marks records counts)
  check_stands numbered =
      let c = checked_in (check_counts s marks records counts) in
      record {
        passing = (checking_passing s numbered marks records).0 c checked_call;
        accurate = checking_accurate s numbered marks records c checked_call;
        bounded = checking_bound s numbered marks records c checked_call;
      }

-- ---- planning

module _ (s : Survey) (marks records counts : List ℕ) (zero : code_of (plan_call s marks records counts) ≡ 0) where
  plan_fine : plan_call s marks records counts ≡ Fine
  plan_fine = code_zero (plan_call s marks records counts) (plan_call_encodable s marks records counts) zero

  plan_parts : (plan_figures ≤ length counts) × (plan_refusal s (length marks) (length records) ≡ Fine)
  unfolding plan_call
  plan_parts = counts_fine s plan_figures (length counts) (plan_refusal s (length marks) (length records)) plan_fine

  plan_counts_law : planned_in (plan_counts s marks records counts) ≡ plan_counts_of (plan_of (problem_of s))
  unfolding plan_counts drawn_figures plan_figures_of plan_counts_of
  plan_counts_law =
      ap (λ (l : List ℕ). planned_in l) (stored_counts plan_fine (drawn_figures s) counts) ∙ planned_stored counts _ _ _ _ _ plan_parts.0

  module _ (numbered : ByteGroups s) where
    plan_finished : FinishedPlan s marks records (planned_in (plan_counts s marks records counts))
    unfolding counting outcome
    plan_finished =
        counting_finished s numbered marks records (planned_in (plan_counts s marks records counts))
        (ap (λ v. outcome v (plan_counts_of (plan_of (problem_of s)))) plan_parts.1 ∙ ap (λ (c : PlanCounts). answer c) (sym plan_counts_law))

    plan_passes : checking s (take (edge_count s) (plan_marks s marks records counts))
        (take (record_bytes * get_or (plan_counts s marks records counts) 4 0) (plan_records s marks records counts))
        ≡ answer (checked_in (plan_counts s marks records counts))
    plan_passes =
        rw (← plan_marks_law s marks records counts plan_parts.0 refl, ← plan_records_law s marks records counts plan_parts.0 refl)
        plan_finished.passes_checker

    pub plan_stands : PlanStands s marks records (plan_marks s marks records counts) (plan_records s marks records counts) (plan_counts s marks records counts)
    plan_stands =
        record {
          finished = plan_finished;
          accurate = plan_finished.accuracy;
          bounded = plan_finished.bound_halved;
          passes = λ lent long. passed_code s _ _ lent (checked_in (plan_counts s marks records counts)) plan_passes long;
          same = λ lent long. passed_counts s _ _ lent (checked_in (plan_counts s marks records counts)) plan_passes long;
        }

-- ---- dropping

module _ (s : Survey) (marks counts : List ℕ) (zero : code_of (drop_call s marks counts) ≡ 0) where
  drop_fine : drop_call s marks counts ≡ Fine
  drop_fine = code_zero (drop_call s marks counts) (drop_call_encodable s marks counts) zero

  drop_parts : (drop_figures ≤ length counts) × (drop_refusal s marks ≡ Fine)
  unfolding drop_call
  drop_parts = counts_fine s drop_figures (length counts) (drop_refusal s marks) drop_fine

  pub drop_counts : dropped_in (dropped_counts s marks counts) ≡ drop_counts_of s marks
  unfolding dropped_counts drop_figures_of drop_counts_of
  drop_counts =
      ap (λ (l : List ℕ). dropped_in l) (stored_counts drop_fine (drop_figures_of (drop_counts_of s marks)) counts) ∙ dropped_stored counts _ _ drop_parts.0

  answered : dropping s marks ≡ answer (dropped_in (dropped_counts s marks counts))
  unfolding dropping outcome
  answered = ap (λ v. outcome v (drop_counts_of s marks)) drop_parts.1 ∙ ap (λ (c : DropCounts). answer c) (sym drop_counts)

  pub drop_stands : ByteGroups s → DropStands s marks (drop_marks s marks counts) (dropped_counts s marks counts)
  drop_stands numbered =
      let c = dropped_in (dropped_counts s marks counts) in
      let dropped : DroppedMarks s marks (drop_marks s marks counts) c =
      subst (λ (l : List ℕ). DroppedMarks s marks l c) (drop_marks_law s marks counts drop_parts.0 refl)
      ((dropping_promises s numbered marks (dropping s marks) refl).dropped c answered) in
      record {
        dropped = dropped;
        accurate = λ records lent passes.
            dropped.accuracy records (checked_in (check_counts s (drop_marks s marks counts) records lent))
            (checked_call s (drop_marks s marks counts) records lent passes);
      }

-- ---- growing, then dropping

module _ (s : Survey) (marks records counts : List ℕ) (zero : code_of (plan_call s marks records counts) ≡ 0) where
  grow_counts_law : planned_in (grow_counts s marks records counts) ≡ grown_counts_of (plan_of (problem_of s))
  unfolding grow_counts plan_figures_of grown_counts_of
  grow_counts_law =
      ap (λ (l : List ℕ). planned_in l) (stored_counts (plan_fine s marks records counts zero) (plan_figures_of (grown_counts_of (plan_of (problem_of s)))) counts)
      ∙ planned_stored counts _ _ _ _ _ (plan_parts s marks records counts zero).0

  module _ (numbered : ByteGroups s) (lent : List ℕ) (long : drop_figures ≤ length lent) where
    abbrev picks : List ℕ
    picks = grown_picks s marks records counts

    abbrev rest : List ℕ
    rest = drop (edge_count s) (marks_grown s marks records)

    enough : plan_figures ≤ length counts
    enough = (plan_parts s marks records counts zero).0

    fine : plan_refusal s (length marks) (length records) ≡ Fine
    fine = (plan_parts s marks records counts zero).1

    picks_are : grown_part s marks records ≡ picks
    unfolding grown_part
    picks_are = ap (λ (l : List ℕ). take (edge_count s) l) (grow_marks_law s marks records counts enough refl)

    picks_drop : dropping s picks ≡ answer (record { terminals = (plan_of (problem_of s)).terminals; cost = (plan_of (problem_of s)).cost })
    picks_drop = ap (λ (l : List ℕ). dropping s l) (sym picks_are) ∙ part_drops s numbered marks records fine

    picks_found : (drop_refusal s picks ≡ Fine) × (drop_counts_of s picks ≡ record { terminals = (plan_of (problem_of s)).terminals; cost = (plan_of (problem_of s)).cost })
    unfolding dropping
    picks_found = answer_fine (drop_refusal s picks) (drop_counts_of s picks) _ picks_drop

    picks_fine : drop_call s picks lent ≡ Fine
    unfolding drop_call drop_refusal
    picks_fine = fine_counts s drop_figures (length lent) (drop_refusal s picks) long (fine_left (survey_refusal s) _ picks_found.0) picks_found.0

    pub stages_stand : StagesStand s marks records counts lent
    unfolding grown_counts_of plan_counts_of
    stages_stand =
        let planned = plan_counts_law s marks records counts zero in
        let dropped = drop_counts s picks lent (zero_code picks_fine) ∙ picks_found.1 in
        record {
          drops = zero_code picks_fine;
          marks_are =
              sym (plan_marks_law s marks records counts enough refl)
              ∙ stages_marks s numbered marks records fine
              ∙ ap (λ (l : List ℕ). marks_dropped s l ++ rest) picks_are
              ∙ ap (λ (l : List ℕ). l ++ rest) (drop_marks_law s picks lent long refl)
              ∙ ap (λ (l : List ℕ). drop_marks s picks lent ++ drop (edge_count s) l) (grow_marks_law s marks records counts enough refl);
          counts_are = planned ∙ ap₂ (λ (d : DropCounts) (g : PlanCounts). both_counts d g) (sym dropped) (sym grow_counts_law);
          grown_sites = ap (λ (c : PlanCounts). c.terminals) grow_counts_law ∙ sym (ap (λ (c : PlanCounts). c.terminals) planned);
          grown_cost = ap (λ (c : PlanCounts). c.cost) grow_counts_law;
        }

-- ---- asking why

asked_stored : (counts : List ℕ) (c : WhyCounts) → why_figures ≤ length counts → asked_in (sets counts 0 (why_figures_of c)) ≡ c
unfolding why_figures_of
asked_stored counts c fits =
    let figures = c.kind ∷ c.group ∷ c.low ∷ c.high ∷ c.entries ∷ c.round ∷ [] in
    rw (
      stored_at counts figures fits 0 (lit< tt),
      stored_at counts figures fits 1 (lit< tt),
      stored_at counts figures fits 2 (lit< tt),
      stored_at counts figures fits 3 (lit< tt),
      stored_at counts figures fits 4 (lit< tt),
      stored_at counts figures fits 5 (lit< tt),
    )

-- A track's number has 32 bits.
module _ (s : Survey) (e : ℕ) (near : e < 2 ^ 32) (route counts : List ℕ) (zero : code_of (why_call s e route counts) ≡ 0) where
  why_fine : why_call s e route counts ≡ Fine
  why_fine = code_zero (why_call s e route counts) (why_call_encodable s e route counts near) zero

  why_parts : (why_figures ≤ length counts) × (why_refusal s (length route) e ≡ Fine)
  unfolding why_call
  why_parts = counts_fine s why_figures (length counts) (why_refusal s (length route) e) why_fine

  why_counts_law : asked_in (why_figured s e route counts) ≡ why_counts (reason_of s e)
  unfolding why_figured
  why_counts_law =
      ap (λ (l : List ℕ). asked_in l) (stored_counts why_fine (why_figures_of (why_counts (reason_of s e))) counts)
      ∙ asked_stored counts (why_counts (reason_of s e)) why_parts.0

  why_answered : reasoning s (length route) e ≡ answer (asked_in (why_figured s e route counts))
  unfolding reasoning outcome
  why_answered = ap (λ v. outcome v (why_counts (reason_of s e))) why_parts.1 ∙ ap (λ (c : WhyCounts). answer c) (sym why_counts_law)

  -- The six numbers and the route that are stored are those of a reason that is true of the growth.
  pub why_stands : ByteGroups s → GivenReason s e route (why_route s e route counts) (asked_in (why_figured s e route counts))
  why_stands numbered =
      (why_promises s numbered e route refl (sym (why_route_law s e route counts why_parts.0 refl))).given (asked_in (why_figured s e route counts)) why_answered
