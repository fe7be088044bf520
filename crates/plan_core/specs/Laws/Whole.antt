-- Planning: 1 to 6, 18 and 7 first, then the growth over the poured lists, whose picks decide 8, and its moats. `plan` and its parts cite it.
use Rattle.std.specs.Prelude.{ℕ, ◌*◌, ◌≤◌, ◌≡◌, Bool, ◌||◌, List, [], ◌++◌, ltb}
use Rattle.std.proofs.Math.Path.{refl, ap, sym, subst}
use Rattle.std.proofs.Common.{◌∙◌}
use Rattle.std.proofs.Math.Bool.{true, false, cond}
use Rattle.std.proofs.Math.ListN.{length, drop}
use borrow.Author.Tests.{ltb-false, le-ltb}
use Rattle.base_finite.specs.Laws.Test.{or_false_left, or_false_right}
use Rattle.base_limits.specs.Limits.{record_bytes, duals_for}
use Rattle.base_limits.specs.Verdict.{refuse_if, ◌before◌, Outcome, refusal, answer, outcome}
use Rattle.base_limits.specs.declared.Verdict.{Verdict}
use Rattle.base_limits.specs.declared.Verdict.TheVariants.{Fine, Refused}
use Rattle.base_limits.specs.Laws.Verdict.{before_fine, before_assoc, fine_left, fine_right, fine_refuse, refuse_false, passed_on, goes_on_law}
use Rattle.theory_steiner.specs.Problem.{all_usable, cost}
use Rattle.survey_core.specs.Survey.{Survey, survey_from, lists_of, vertex_count, edge_count, problem_of}
use Rattle.survey_core.specs.Sound.{ByteGroups}
use Rattle.survey_core.specs.Refusal.{survey_refusal, group_refusal}
use Rattle.survey_core.proofs.Laws.Refusal.{survey_fine, fine_survey}
use Rattle.survey_components.specs.Labels.{chosen}
use Rattle.survey_components.specs.declared.Chosen.TheVariants.{All}
use Rattle.survey_lists.specs.Pouring.{poured_groups}
use Rattle.survey_lists.proofs.Laws.Pouring.{length_poured}
use Rattle.check_rule.specs.Check.{kept_by}
use Rattle.plan_draw.specs.Trace.{trace_from, drawn_duals}
use Rattle.plan_draw.specs.Drawing.{records_over}
use Rattle.plan_rule.specs.Plan.{Plan, PlanCounts, plan_of, plan_counts_of, plan_refusal, counting, marks_after, records_after}
use Rattle.plan_rule.specs.Promise.{Ready}
use Rattle.plan_rule.proofs.Laws.Ready.{groups_of_all, ready_fine}
use Rattle.plan_rule.proofs.Laws.Promise.{refused_call, finished_call}
use Rattle.plan_rule.proofs.Laws.Same.{plan_poured}
use Rattle.plan_core.specs.Planned.{joinable, marks_joined, MarkedInto, lent_refusal, Fits, counts_joined, records_joined}
use Rattle.plan_core.specs.Laws.Finish.{rounds_plan, bound_plan, duals_plan}
use Rattle.plan_core.specs.Laws.Planned.{planned_cost, joinable_joins, unjoined_comes, into_sound, joinable_poured, joined_by, parted_by}

-- ---- 1 to 6, 18 and 7

module _ (s : Survey) (marks_length records_length : ℕ) where
  abbrev short : Bool
  short = ltb marks_length (edge_count s) || ltb records_length (record_bytes * duals_for (vertex_count s))

  -- Then 8.
  pub lent_then : plan_refusal s marks_length records_length ≡ (lent_refusal s marks_length records_length before group_refusal s 8 (all_usable (problem_of s)))
  unfolding plan_refusal lent_refusal
  lent_then = sym (before_assoc (survey_refusal s) (refuse_if short 7 0) (group_refusal s 8 (all_usable (problem_of s))))

  pub lent_fits : lent_refusal s marks_length records_length ≡ Fine → Fits s marks_length records_length
  unfolding lent_refusal
  lent_fits h =
      let free : short ≡ false = fine_refuse short 7 0 (fine_right _ _ h) in
      record {
        survey = fine_survey s (fine_left _ _ h);
        marks_fit = ltb-false marks_length (edge_count s) (or_false_left (ltb marks_length (edge_count s)) _ free);
        records_fit =
            ltb-false records_length (record_bytes * duals_for (vertex_count s))
            (or_false_right (ltb marks_length (edge_count s)) (ltb records_length (record_bytes * duals_for (vertex_count s))) free);
      }

  pub fits_lent : Fits s marks_length records_length → lent_refusal s marks_length records_length ≡ Fine
  unfolding lent_refusal
  fits_lent h =
      before_fine (survey_fine s h.survey) _
      ∙ refuse_false (rw (le-ltb marks_length (edge_count s) h.marks_fit, le-ltb records_length (record_bytes * duals_for (vertex_count s)) h.records_fit)) 7 0

  module _ {v : Verdict} (v_is : v ≡ lent_refusal s marks_length records_length) where
    pub lent_stops : {number place : ℕ} → v ≡ Refused number place → v ≡ plan_refusal s marks_length records_length
    lent_stops h = passed_on v_is h _ ∙ sym lent_then

    pub lent_goes_on : (marks : List ℕ) {w : Verdict} → v ≡ Fine → w ≡ group_refusal s 8 (chosen All marks) → w ≡ plan_refusal s marks_length records_length
    lent_goes_on marks h is = goes_on_law v_is h (is ∙ sym (groups_of_all s 8 marks)) ∙ sym lent_then

-- ---- over poured lists

module _ (s : Survey) (marks records : List ℕ) (fits : Fits s (length marks) (length records)) {rounds bound : ℕ} {joins : Bool} {values order marked : List ℕ}
    (left : MarkedInto s marks rounds bound joins values order marked) where
  pub plan_parted : joins ≡ false → (refusal 8 0 ≡ counts_joined s) × (records ≡ records_joined s records)
  unfolding counts_joined records_joined
  plan_parted h =
      let parted : false ≡ joinable s = sym h ∙ left.joins_is in (
        ap (λ (t : Bool). cond t (answer (plan_counts_of (plan_of (problem_of s)))) (refusal 8 0)) parted,
        ap (λ (t : Bool). cond t (records_over (plan_of (problem_of s)).duals records) records) parted,
      )

  module _ (h : joins ≡ true) where
    all_joined : true ≡ joinable s
    all_joined = sym h ∙ left.joins_is

    ready : Ready s (length marks) (length records)
    ready = record { survey = fits.survey; marks_fit = fits.marks_fit; records_fit = fits.records_fit; joinable = joinable_joins s (sym all_joined) }

    marks_planned : marked ≡ (plan_of (problem_of s)).marks ++ drop (length s.firsts) marks
    unfolding marks_joined
    marks_planned = left.marks_are ∙ ap (λ (t : Bool). cond t ((plan_of (problem_of s)).marks ++ drop (length s.firsts) marks) marks) (sym all_joined)

    -- k, cost, bound, rounds and moats are the plan's.
    pub plan_joined : {k c r d u : ℕ} {drawn : List ℕ} → k ≡ (plan_of (problem_of s)).terminals
        → c ≡ cost (problem_of (survey_from [] s.firsts [] s.weights)) (kept_by marked) → r ≡ rounds
        → d ≡ length (drawn_duals (trace_from (length s.groups) s.firsts s.seconds values order rounds) (length records)) → u ≡ d
        → drawn ≡ records_over (drawn_duals (trace_from (length s.groups) s.firsts s.seconds values order rounds) (length records)) records
        → (answer (record { terminals = k; cost = c; bound = bound; rounds = r; duals = u }) ≡ counts_joined s) × (drawn ≡ records_joined s records)
    unfolding counts_joined records_joined plan_counts_of
    plan_joined {k} {c} {r} {d} {u} k_is c_is r_is d_is u_is drawn_is =
        let all = duals_plan ready left.grew records refl in
        let price : c ≡ (plan_of (problem_of s)).cost = planned_cost s (drop (length s.firsts) marks) marks_planned c_is in
        let sum : bound ≡ (plan_of (problem_of s)).bound = bound_plan ready left.grew in
        let turns : r ≡ (plan_of (problem_of s)).rounds = r_is ∙ rounds_plan ready left.grew in
        let moats : u ≡ length (plan_of (problem_of s)).duals = u_is ∙ d_is ∙ ap length all in (
          (λ i. answer (record { terminals = k_is i; cost = price i; bound = sum i; rounds = turns i; duals = moats i }))
              ∙ ap (λ (t : Bool). cond t (answer (plan_counts_of (plan_of (problem_of s)))) (refusal 8 0)) all_joined,
          drawn_is ∙ ap (λ ds. records_over ds records) all
              ∙ ap (λ (t : Bool). cond t (records_over (plan_of (problem_of s)).duals records) records) all_joined,
        )

-- ---- the lists

module _ (s : Survey) (marks records : List ℕ) (fits : Fits s (length marks) (length records)) {part : List ℕ} (part_is : part ≡ poured_groups (lists_of s)) where
  abbrev into : Survey
  into = survey_from part s.firsts s.seconds s.weights

  pub into_fits : Fits into (length marks) (length records)
  unfolding vertex_count edge_count
  into_fits =
      record {
        survey = into_sound s fits.survey part_is;
        marks_fit = fits.marks_fit;
        records_fit = subst (λ n. record_bytes * duals_for n ≤ length records) (sym (ap length part_is ∙ length_poured (lists_of s))) fits.records_fit;
      }

  pub plan_apart : {o : Outcome PlanCounts} {number place : ℕ} → o ≡ counts_joined into → o ≡ refusal number place → joinable s ≡ false
  unfolding counts_joined
  plan_apart o_is h = sym (joinable_poured s fits.survey part_is) ∙ parted_by (joinable into) (plan_counts_of (plan_of (problem_of into))) (sym o_is ∙ h)

  module _ (numbered : ByteGroups s) {marked drawn : List ℕ} (marked_is : marked ≡ marks_joined into marks) (drawn_is : drawn ≡ records_joined into records) where
    -- Nothing is written where the lists cannot be joined.
    apart_by : (v : Verdict) → group_refusal s 8 (all_usable (problem_of s)) ≡ v → joinable s ≡ false → {o : Outcome PlanCounts}
        → ((c : PlanCounts) → o ≡ outcome (group_refusal s 8 (all_usable (problem_of s))) c)
        → (o ≡ counting s (length marks) (length records)) × ((marked ≡ marks_after s marks records) × (drawn ≡ records_after s marks records))
    unfolding outcome marks_joined records_joined
    apart_by Fine h parted is = unjoined_comes s numbered parted h
    apart_by (Refused number place) h parted is =
        let apart : joinable into ≡ false = joinable_poured s fits.survey part_is ∙ parted in
        let found = lent_then s (length marks) (length records) ∙ before_fine (fits_lent s (length marks) (length records) fits) _ ∙ h in
        let call = refused_call s numbered marks records number place found in
        let none = plan_counts_of (plan_of (problem_of s)) in (
          is none ∙ ap (λ v. outcome v none) h ∙ call.0,
          (
            marked_is ∙ ap (λ (t : Bool). cond t ((plan_of (problem_of into)).marks ++ drop (length s.firsts) marks) marks) apart ∙ call.1.0,
            drawn_is ∙ ap (λ (t : Bool). cond t (records_over (plan_of (problem_of into)).duals records) records) apart ∙ call.1.1.0,
          ),
        )

    pub apart_call : {o r : Outcome PlanCounts} {number place : ℕ} → o ≡ counts_joined into → o ≡ refusal number place
        → ((c : PlanCounts) → r ≡ outcome (group_refusal s 8 (all_usable (problem_of s))) c)
        → (r ≡ counting s (length marks) (length records)) × ((marked ≡ marks_after s marks records) × (drawn ≡ records_after s marks records))
    apart_call o_is h is = apart_by (group_refusal s 8 (all_usable (problem_of s))) refl (plan_apart o_is h) is

    pub joined_call : {o : Outcome PlanCounts} {c : PlanCounts} → o ≡ counts_joined into → o ≡ answer c
        → (o ≡ counting s (length marks) (length records)) × ((marked ≡ marks_after s marks records) × (drawn ≡ records_after s marks records))
    unfolding counts_joined marks_joined records_joined edge_count
    joined_call {o} o_is h =
        let joins : joinable into ≡ true = joined_by (joinable into) (plan_counts_of (plan_of (problem_of into))) (sym o_is ∙ h) in
        let all : joinable s ≡ true = sym (joinable_poured s fits.survey part_is) ∙ joins in
        let same = plan_poured s fits.survey part_is in
        let ready : Ready s (length marks) (length records) = record { survey = fits.survey; marks_fit = fits.marks_fit; records_fit = fits.records_fit; joinable = joinable_joins s all } in
        let call =
        finished_call s numbered marks records marked drawn o (ready_fine s numbered (length marks) (length records) ready)
        (o_is ∙ ap (λ (t : Bool). cond t (answer (plan_counts_of (plan_of (problem_of into)))) (refusal 8 0)) joins ∙ ap (λ (q : Plan). answer (plan_counts_of q)) same)
        (marked_is ∙ ap (λ (t : Bool). cond t ((plan_of (problem_of into)).marks ++ drop (length s.firsts) marks) marks) joins
        ∙ ap (λ (q : Plan). q.marks ++ drop (length s.firsts) marks) same)
        (drawn_is ∙ ap (λ (t : Bool). cond t (records_over (plan_of (problem_of into)).duals records) records) joins
        ∙ ap (λ (q : Plan). records_over q.duals records) same) in
        (call.0, (call.1.0, call.1.1.0))
