-- What an answer of planning promises besides its equation with the definition: finished exactly if none of 1 to 8 applies; 8 exactly if the survey is sound, the buffers
-- are long enough and some group cannot be joined by any set of tracks, and then the lowest; rounds and bound are those of the definition's steps; the plan passes the
-- checker and is accurate.
use Rattle.std.specs.Prelude.{ℕ, ◌*◌, ◌-◌, ◌≤◌, ◌<◌, ◌≡◌, refl, ◌⊎◌, Bool, ◌||◌, List, ◌++◌, ltb}
use Rattle.std.proofs.Math.Path.{ap}
use Rattle.std.proofs.Common.{sym, ◌∙◌, subst, inl, inr, ⊎_elim, arith}
use Rattle.std.proofs.Math.Bool.{false}
use Rattle.std.proofs.Math.ListN.{length, take, drop}
use Rattle.std.proofs.Math.Seq.{take_at}
use borrow.Author.Tests.{ltb-false}
use Rattle.base_finite.specs.Laws.Test.{or_false_left, or_false_right, not_of_false, not_true_false}
use Rattle.base_finite.specs.Below.{count_below}
use Rattle.base_finite.specs.Laws.Below.{length_tabulate, lt_or_ge}
use Rattle.base_limits.specs.Limits.{record_bytes, duals_for, group_numbers}
use Rattle.base_limits.specs.Verdict.{Outcome, refusal, refuse_if, ◌before◌, answer, outcome, written}
use Rattle.base_limits.specs.declared.Verdict.{Verdict}
use Rattle.base_limits.specs.declared.Verdict.TheVariants.{Fine, Refused}
use Rattle.base_limits.specs.Laws.Verdict.{before_fine, refuse_true, refuse_false, lowest_none, lowest_found, refused_refuse, fine_refuse, answer_fine, refusal_found}
use Rattle.theory_steiner.specs.Problem.{Problem, Sound, Joins, all_usable}
use Rattle.theory_steiner.specs.Growth.{active, state_at, grown}
use Rattle.theory_steiner.specs.Pruning.{picked}
use Rattle.theory_steiner.specs.Rounds.{bound_of_rounds, TakesRounds}
use Rattle.theory_steiner.proofs.Laws.Rounds.{rounds_lt, takes_rounds, grown_reached, picked_count, bound_of_rounds_law}
use Rattle.survey_core.specs.Survey.{Survey, vertex_count, edge_count, problem_of, group_joined, components_of}
use Rattle.survey_core.specs.Refusal.{survey_refusal, group_refusal, LowestUnjoined}
use Rattle.survey_core.proofs.Laws.Refusal.{survey_fine, fine_survey, survey_sound}
use Rattle.survey_core.specs.Sound.{ByteGroups}
use Rattle.survey_core.proofs.Laws.Group.{member_byte, group_joined_elim, group_joined_intro, group_refused, unjoinable_iff}
use Rattle.theory_steiner.proofs.Laws.Finish.{all_usable_edges, grown_resting}
use Rattle.plan_draw.specs.Drawing.{records_of, records_over}
use Rattle.plan_draw.proofs.Laws.Drawing.{length_records}
use Rattle.plan_rule.specs.Plan.{plan_of, plan_refusal, PlanCounts, plan_counts_of, counting, marks_after, records_after}
use Rattle.plan_rule.specs.Promise.{Ready, Unjoinable, FinishedPlan, Promises}
use Rattle.plan_rule.proofs.Laws.Number.{before_cases, survey_never}
use Rattle.plan_rule.proofs.Laws.Ready.{fine_ready, ready_fine, all_bounded, buffers_fit}
use Rattle.plan_rule.proofs.Laws.Passes.{finished_passes, finished_accurate, finished_bound}
use Rattle.plan_rule.proofs.Laws.Needed.{plan_needed}
use Rattle.plan_rule.proofs.Laws.Exact.{finished_exact}

-- ---- 8

module _ (s : Survey) (marks_length records_length : ℕ) where
  short : Bool
  short = ltb marks_length (edge_count s) || ltb records_length (record_bytes * duals_for (vertex_count s))

  -- 8 comes of the groups alone, after 1 to 7.
  eight_stage : (g : ℕ) → plan_refusal s marks_length records_length ≡ Refused 8 g →
      (survey_refusal s ≡ Fine) × (refuse_if short 7 0 ≡ Fine) × (group_refusal s 8 (all_usable (problem_of s)) ≡ Refused 8 g)
  unfolding plan_refusal short
  eight_stage g h = first_stage (before_cases _ _ h)
    where
      Rest : Verdict
      Rest = refuse_if short 7 0 before group_refusal s 8 (all_usable (problem_of s))

      first_stage : (survey_refusal s ≡ Refused 8 g) ⊎ ((survey_refusal s ≡ Fine) × (Rest ≡ Refused 8 g)) →
          (survey_refusal s ≡ Fine) × (refuse_if short 7 0 ≡ Fine) × (group_refusal s 8 (all_usable (problem_of s)) ≡ Refused 8 g)
      first_stage (inl k) = absurd ((survey_never 8 (λ e. omega arith) (omega arith) s).other 8 g k refl)
      first_stage (inr k) = second_stage (before_cases _ _ k.1)
        where
          second_stage : (refuse_if short 7 0 ≡ Refused 8 g) ⊎ ((refuse_if short 7 0 ≡ Fine) × (group_refusal s 8 (all_usable (problem_of s)) ≡ Refused 8 g)) →
              (survey_refusal s ≡ Fine) × (refuse_if short 7 0 ≡ Fine) × (group_refusal s 8 (all_usable (problem_of s)) ≡ Refused 8 g)
          second_stage (inl l) = absurd (let e = (refused_refuse short 7 0 8 g l).1.0 in omega arith)
          second_stage (inr l) = (k.0, l.0, l.1)

  pub eight_unjoinable : (g : ℕ) → plan_refusal s marks_length records_length ≡ Refused 8 g → Unjoinable s marks_length records_length g
  unfolding short
  eight_unjoinable g h =
      let e = eight_stage g h in
      let no_short = fine_refuse short 7 0 e.1 in
      let l : LowestUnjoined s (all_usable (problem_of s)) g = (group_refused s 8 (all_usable (problem_of s)) (all_bounded s) 8 g e.2).1 in
      record {
        survey = fine_survey s e.0;
        marks_fit = ltb-false marks_length (edge_count s) (or_false_left (ltb marks_length (edge_count s)) _ no_short);
        records_fit = ltb-false records_length (record_bytes * duals_for (vertex_count s)) (or_false_right (ltb marks_length (edge_count s)) _ no_short);
        none_joins = (unjoinable_iff s g).0 l.unjoined;
        lower_joined = l.lower;
      }

  -- And whenever it is so, 8 is what comes.
  pub unjoinable_eight : ByteGroups s → (g : ℕ) → Unjoinable s marks_length records_length g → plan_refusal s marks_length records_length ≡ Refused 8 g
  unfolding plan_refusal group_refusal
  unjoinable_eight numbered g u =
      before_fine (survey_fine s u.survey) _
      ∙ before_fine (buffers_fit (vertex_count s) (edge_count s) marks_length records_length u.marks_fit u.records_fit) _
      ∙ lowest_found group_numbers g _ below
      (lowest_none g _ (λ i b. refuse_false (rw (group_joined_intro s (all_usable (problem_of s)) (all_bounded s) i (u.lower_joined i b))) 8 i))
      (refuse_true (not_of_false (group_joined s (components_of s (all_usable (problem_of s))) g) apart) 8 g)
    where
      apart : group_joined s (components_of s (all_usable (problem_of s))) g ≡ false
      apart =
          not_true_false (group_joined s (components_of s (all_usable (problem_of s))) g)
          (λ k. u.none_joins (all_usable (problem_of s)) (all_usable_edges (problem_of s)) (group_joined_elim s (all_usable (problem_of s)) g k))

      -- a number that is no byte has no members
      below : g < group_numbers
      below =
          ⊎_elim
          (λ l. l)
          (λ out.
          absurd
          (u.none_joins (all_usable (problem_of s)) (all_usable_edges (problem_of s))
          (λ a b ba bb ma mb. absurd (let n = member_byte s numbered g a ma in omega arith))))
          (lt_or_ge g group_numbers)

-- ---- rounds, checker and accuracy

-- The rounds of a plan, and its bound as a sum over them.
record PlanRounds (p : Problem) : Type 0 where
  count : (plan_of p).rounds ≡ count_below p.edges (picked p)
  few : (plan_of p).rounds ≤ p.vertices - 1
  steps : TakesRounds p (plan_of p).rounds
  rest : (v : ℕ) → active p (state_at p (plan_of p).rounds).label v ≡ false
  bound : (plan_of p).bound ≡ bound_of_rounds p (plan_of p).rounds

plan_rounds : (p : Problem) (ok : Sound p) → 0 < p.vertices → Joins p (all_usable p) → PlanRounds p
unfolding plan_of picked
plan_rounds p ok some joinable =
    let steps : TakesRounds p (grown p).rounds = takes_rounds p ok some in
    record {
      count = sym (picked_count p ok (grown_reached p));
      few = omega (arith, rounds_lt p ok some (grown_reached p));
      steps = steps;
      rest = λ v. ap (λ t. active p t.label v) steps.whole ∙ grown_resting p ok some joinable v;
      bound = bound_of_rounds_law p ok;
    }

module _ (s : Survey) (numbered : ByteGroups s) (marks records : List ℕ) (fine : plan_refusal s (length marks) (length records) ≡ Fine) where
  -- The marks and the records of a finished plan, cut from the buffers.
  pub cut_marks : take (edge_count s) (marks_after s marks records) ≡ (plan_of (problem_of s)).marks
  unfolding marks_after written plan_of problem_of
  cut_marks =
      ap (λ v. take (edge_count s) (written v ((plan_of (problem_of s)).marks ++ drop (edge_count s) marks) marks)) fine
      ∙ take_at (plan_of (problem_of s)).marks (drop (edge_count s) marks) (edge_count s) (length_tabulate (edge_count s) _)

  pub cut_records : take (record_bytes * length (plan_of (problem_of s)).duals) (records_after s marks records) ≡ records_of (plan_of (problem_of s)).duals
  unfolding records_after written records_over
  cut_records =
      let new = records_of (plan_of (problem_of s)).duals in
      let count = record_bytes * length (plan_of (problem_of s)).duals in
      ap (λ v. take count (written v (new ++ drop count records) records)) fine
      ∙ take_at new (drop count records) count (length_records (plan_of (problem_of s)).duals)

  finished_counts : FinishedPlan s marks records (plan_counts_of (plan_of (problem_of s)))
  unfolding plan_counts_of problem_of vertex_count edge_count
  finished_counts =
      let r : Ready s (length marks) (length records) = fine_ready s numbered (length marks) (length records) fine in
      let rounds : PlanRounds (problem_of s) = plan_rounds (problem_of s) (survey_sound s r.survey) r.survey.some r.joinable in
      record {
        ready = r;
        rounds_picked = rounds.count;
        rounds_few = rounds.few;
        rounds_steps = rounds.steps;
        rounds_rest = rounds.rest;
        bound_rounds = rounds.bound;
        needed = rw cut_marks (plan_needed s r.survey r.joinable);
        passes_checker = rw (cut_marks, cut_records) (finished_passes s r.survey r.joinable numbered);
        accuracy = finished_accurate s r.survey r.joinable;
        bound_halved = finished_bound s r.survey r.joinable;
        exact = rw cut_marks (finished_exact s r.survey r.joinable numbered);
      }

-- An answer with counts is a finished plan, and none of 1 to 8 applied.
pub counting_finished : (s : Survey) → ByteGroups s → (marks records : List ℕ) (c : PlanCounts) → counting s (length marks) (length records) ≡ answer c →
    FinishedPlan s marks records c
unfolding counting
counting_finished s numbered marks records c h =
    let a = answer_fine (plan_refusal s (length marks) (length records)) (plan_counts_of (plan_of (problem_of s))) c h in
    subst (FinishedPlan s marks records) a.1 (finished_counts s numbered marks records a.0)

-- Where none applies, there is an answer with counts.
pub ready_counting : (s : Survey) → ByteGroups s → (marks_length records_length : ℕ) → Ready s marks_length records_length →
    counting s marks_length records_length ≡ answer (plan_counts_of (plan_of (problem_of s)))
unfolding counting outcome
ready_counting s numbered marks_length records_length r =
    ap (λ v. outcome v (plan_counts_of (plan_of (problem_of s)))) (ready_fine s numbered marks_length records_length r)

-- ---- the call

pub planning_promises : (s : Survey) → ByteGroups s → (marks records : List ℕ) (o : Outcome PlanCounts) → o ≡ counting s (length marks) (length records) →
    Promises s marks records o
unfolding counting outcome
planning_promises s numbered marks records o h =
    record {
      finished = λ c k. counting_finished s numbered marks records c (sym h ∙ k);
      finishes = λ r. h ∙ ready_counting s numbered (length marks) (length records) r;
      unjoinable = λ g k.
          eight_unjoinable s (length marks) (length records) g
          (refusal_found (plan_refusal s (length marks) (length records)) (plan_counts_of (plan_of (problem_of s))) (sym h ∙ k));
      unjoinable_refused = λ g u.
          h ∙ ap (λ v. outcome v (plan_counts_of (plan_of (problem_of s)))) (unjoinable_eight s (length marks) (length records) numbered g u);
    }

-- A refused call.
pub refused_call : (s : Survey) → ByteGroups s → (marks records : List ℕ) (number place : ℕ) → plan_refusal s (length marks) (length records) ≡ Refused number place →
    (refusal number place ≡ counting s (length marks) (length records))
    × ((marks ≡ marks_after s marks records) × ((records ≡ records_after s marks records) × Promises s marks records (refusal number place)))
unfolding counting outcome marks_after records_after written
refused_call s numbered marks records number place h =
    let e : refusal number place ≡ counting s (length marks) (length records) = sym (ap (λ v. outcome v (plan_counts_of (plan_of (problem_of s)))) h) in (
      e,
      (
        sym (ap (λ v. written v ((plan_of (problem_of s)).marks ++ drop (edge_count s) marks) marks) h),
        (
          sym (ap (λ v. written v (records_over (plan_of (problem_of s)).duals records) records) h),
          planning_promises s numbered marks records (refusal number place) e,
        ),
      ),
    )

-- A finished one.
pub finished_call : (s : Survey) → ByteGroups s → (marks records marked drawn : List ℕ) (o : Outcome PlanCounts) → plan_refusal s (length marks) (length records) ≡ Fine →
    o ≡ answer (plan_counts_of (plan_of (problem_of s))) → marked ≡ (plan_of (problem_of s)).marks ++ drop (edge_count s) marks →
    drawn ≡ records_over (plan_of (problem_of s)).duals records →
    (o ≡ counting s (length marks) (length records))
    × ((marked ≡ marks_after s marks records) × ((drawn ≡ records_after s marks records) × Promises s marks records o))
unfolding counting outcome marks_after records_after written
finished_call s numbered marks records marked drawn o h answered_by marks_are drawn_are =
    let e : o ≡ counting s (length marks) (length records) = answered_by ∙ sym (ap (λ v. outcome v (plan_counts_of (plan_of (problem_of s)))) h) in (
      e,
      (
        marks_are ∙ sym (ap (λ v. written v ((plan_of (problem_of s)).marks ++ drop (edge_count s) marks) marks) h),
        (
          drawn_are ∙ sym (ap (λ v. written v (records_over (plan_of (problem_of s)).duals records) records) h),
          planning_promises s numbered marks records o e,
        ),
      ),
    )
