-- Growing and then dropping, lent just the m marks, is planning (document 02, No. 7): answer, marks and records. What growing leaves is a forest that joins every list, so dropping accepts it.
use Rattle.std.specs.Prelude.{ℕ, ◌≤◌, ◌<◌, ◌≡◌, refl, Bool, true, false, length, take, eqb}
use Rattle.std.proofs.Common.{arith, ◌∙◌, drop_at, lit≤}
use Rattle.std.proofs.Math.Path.{ap, sym, subst, fun_ext}
use Rattle.std.proofs.Math.Logic.{⊎_elim}
use Rattle.std.proofs.Math.Bool.{not}
use mathlib.Core.List.{List, ◌++◌}
use Rattle.std.proofs.Math.ListN.{get_or, drop, get_or-append, get_or-eq_default}
use Rattle.std.proofs.Math.Seq.{take_at}
use Rattle.base_finite.specs.Below.{counted, tabulate}
use Rattle.base_finite.specs.Laws.Below.{lt_or_ge, length_tabulate, get_d_tabulate}
use Rattle.base_finite.specs.Laws.Test.{not_true_false}
use Rattle.base_limits.specs.Verdict.{Outcome, answer, outcome, written}
use Rattle.base_limits.specs.declared.Verdict.{Verdict}
use Rattle.base_limits.specs.declared.Verdict.TheVariants.{Fine, Refused}
use Rattle.base_limits.specs.Laws.Verdict.{answer_fine, refusal_found}
use Rattle.theory_graph.specs.Path.{Forest}
use Rattle.theory_steiner.specs.Problem.{Problem, Sound, Joins, terminals, cost}
use Rattle.theory_steiner.specs.Growth.{grown}
use Rattle.theory_steiner.specs.Pruning.{needed, picked, kept, mark_of, mark}
use Rattle.theory_steiner.proofs.Laws.Partition.{picked_usable}
use Rattle.theory_steiner.proofs.Laws.Rounds.{grown_reached}
use Rattle.theory_steiner.proofs.Laws.Finish.{picked_joins, picked_acyclic}
use Rattle.survey_core.specs.Survey.{Survey, vertex_count, edge_count, problem_of}
use Rattle.survey_core.specs.Sound.{ByteGroups}
use Rattle.survey_core.proofs.Laws.Refusal.{survey_sound}
use Rattle.survey_components.specs.Labels.{picked_in}
use Rattle.plan_draw.specs.Drawing.{records_over}
use Rattle.plan_rule.specs.Plan.{plan_of, plan_refusal, PlanCounts, plan_counts_of, counting, marks_after, records_after}
use Rattle.plan_rule.specs.Growing.{grown_counts_of, picked_marks, growing, marks_grown}
use Rattle.plan_rule.specs.Dropping.{drop_refusal, drop_counts_of, dropping, needed_marks, marks_dropped}
use Rattle.plan_rule.specs.Promise.{Ready, Promises}
use Rattle.plan_rule.specs.DropPromise.{Droppable}
use Rattle.plan_rule.specs.Stages.{then_dropping, grown_part, InStages}
use Rattle.plan_rule.proofs.Laws.Ready.{fine_ready}
use Rattle.plan_rule.proofs.Laws.Promise.{planning_promises}
use Rattle.plan_rule.proofs.Laws.Dropping.{droppable_fine}

pub one_or_none : (t : Bool) → not (eqb (counted t 1) 0) ≡ t
unfolding counted
one_or_none true = refl
one_or_none false = refl

counted_le : (t : Bool) → counted t 1 ≤ 1
unfolding counted
counted_le true = lit≤ tt
counted_le false = lit≤ tt

module _ (p : Problem) where
  pub length_picked : length (picked_marks p) ≡ p.edges
  unfolding picked_marks
  length_picked = length_tabulate p.edges _

  picked_at : (e : ℕ) → e < p.edges → get_or (picked_marks p) e 0 ≡ counted (picked p e) 1
  unfolding picked_marks
  picked_at e b = get_d_tabulate p.edges (λ e. counted (picked p e) 1) e 0 b

  -- The marks that growing leaves pick what growing picked.
  pub picked_back : picked_in (picked_marks p) ≡ picked p
  unfolding picked_in picked
  picked_back =
      fun_ext
      (λ e.
      ⊎_elim
      (λ b. ap (λ x. not (eqb x 0)) (picked_at e b) ∙ one_or_none ((grown p).picked e))
      (λ b.
      ap (λ x. not (eqb x 0)) (get_or-eq_default (picked_marks p) 0 (subst (λ m. m ≤ e) (sym length_picked) b))
      ∙ sym (not_true_false ((grown p).picked e) (λ k. let l = (picked_usable p (grown_reached p) e k).0 in omega arith)))
      (lt_or_ge e p.edges))

module _ (s : Survey) {marks_length records_length : ℕ} (ready : Ready s marks_length records_length) where
  abbrev p : Problem
  p = problem_of s

  ok : Sound p
  ok = survey_sound s ready.survey

  some : 0 < p.vertices
  unfolding problem_of vertex_count
  some = ready.survey.some

  -- Dropping accepts what growing leaves.
  pub grown_droppable : Droppable s (picked_marks p)
  unfolding problem_of
  grown_droppable =
      record {
        marked = record {
          survey = ready.survey;
          marks_long = length_picked p;
          marks_known = λ e b. subst (λ x. x ≤ 1) (sym (picked_at p e b)) (counted_le (picked p e));
        };
        forest = subst (Forest p.first p.second) (sym (picked_back p)) (picked_acyclic p ok some ready.joinable);
        joins = subst (Joins p) (sym (picked_back p)) (picked_joins p ok some ready.joinable);
      }

  pub grown_fine : drop_refusal s (picked_marks p) ≡ Fine
  grown_fine = droppable_fine s (picked_marks p) grown_droppable

  -- And leaves the plan's marks and figures.
  needed_plan : needed_marks s (picked_marks p) ≡ (plan_of p).marks
  unfolding needed_marks plan_of mark kept problem_of
  needed_plan = ap (λ F. tabulate (edge_count s) (λ e. mark_of (F e) (needed (problem_of s) F e))) (picked_back (problem_of s))

  dropped_plan : marks_dropped s (picked_marks p) ≡ (plan_of p).marks
  unfolding marks_dropped written
  dropped_plan = ap (λ v. written v (needed_marks s (picked_marks p)) (picked_marks p)) grown_fine ∙ needed_plan

  dropping_plan : dropping s (picked_marks p) ≡ answer (record { terminals = (plan_of p).terminals; cost = (plan_of p).cost })
  unfolding dropping outcome drop_counts_of plan_of kept
  dropping_plan =
      ap (λ v. outcome v (drop_counts_of s (picked_marks p))) grown_fine
      ∙ ap (λ F. answer (record { terminals = terminals p; cost = cost p (needed p F) })) (picked_back p)

module _ (s : Survey) (numbered : ByteGroups s) (marks records : List ℕ) where
  abbrev v : Verdict
  v = plan_refusal s (length marks) (length records)

  abbrev P : Problem
  P = problem_of s

  module _ (fine : plan_refusal s (length marks) (length records) ≡ Fine) where
    ready : Ready s (length marks) (length records)
    ready = fine_ready s numbered (length marks) (length records) fine

    marks_grown_law : marks_grown s marks records ≡ picked_marks P ++ drop (edge_count s) marks
    unfolding marks_grown written
    marks_grown_law = ap (λ v. written v (picked_marks P ++ drop (edge_count s) marks) marks) fine

    edges_long : length (picked_marks P) ≡ edge_count s
    unfolding problem_of
    edges_long = length_picked (problem_of s)

    part_is : grown_part s marks records ≡ picked_marks P
    unfolding grown_part
    part_is = ap (take (edge_count s)) marks_grown_law ∙ take_at (picked_marks P) (drop (edge_count s) marks) (edge_count s) edges_long

    rest_is : drop (edge_count s) (marks_grown s marks records) ≡ drop (edge_count s) marks
    rest_is = ap (drop (edge_count s)) marks_grown_law ∙ drop_at (picked_marks P) (drop (edge_count s) marks) (edge_count s) edges_long

    picks_at : (e : ℕ) → e < edge_count s → get_or (marks_grown s marks records) e 0 ≡ counted (picked P e) 1
    unfolding problem_of
    picks_at e b =
        ap (λ (l : List ℕ). get_or l e 0) marks_grown_law
        ∙ get_or-append (picked_marks P) (drop (edge_count s) marks) 0 e (subst (λ m. e < m) (sym edges_long) b)
        ∙ picked_at P e b

    -- Dropping refuses nothing that growing leaves.
    pub part_drops : dropping s (grown_part s marks records) ≡ answer (record { terminals = (plan_of P).terminals; cost = (plan_of P).cost })
    part_drops = ap (dropping s) part_is ∙ dropping_plan s ready

    pub stages_marks : marks_after s marks records ≡ marks_dropped s (grown_part s marks records) ++ drop (edge_count s) (marks_grown s marks records)
    unfolding marks_after written
    stages_marks =
        ap (λ v. written v ((plan_of P).marks ++ drop (edge_count s) marks) marks) fine
        ∙ sym
        (ap (λ l. marks_dropped s l ++ drop (edge_count s) (marks_grown s marks records)) part_is
        ∙ ap (λ l. l ++ drop (edge_count s) (marks_grown s marks records)) (dropped_plan s ready)
        ∙ ap (λ l. (plan_of P).marks ++ l) rest_is)

    stages_answers : counting s (length marks) (length records) ≡ then_dropping (growing s (length marks) (length records)) (dropping s (grown_part s marks records))
    unfolding counting growing outcome plan_counts_of grown_counts_of then_dropping
    stages_answers = rw (fine, part_drops)

  refused_answers : {number place : ℕ} → plan_refusal s (length marks) (length records) ≡ Refused number place
      → counting s (length marks) (length records) ≡ then_dropping (growing s (length marks) (length records)) (dropping s (grown_part s marks records))
  unfolding counting growing outcome then_dropping
  refused_answers h = rw h

  by_verdict : (w : Verdict) → plan_refusal s (length marks) (length records) ≡ w
      → counting s (length marks) (length records) ≡ then_dropping (growing s (length marks) (length records)) (dropping s (grown_part s marks records))
  by_verdict Fine h = stages_answers h
  by_verdict (Refused number place) h = refused_answers h

  pub planning_stages : InStages s marks records
  unfolding counting growing outcome marks_grown marks_after records_after written grown_counts_of
  planning_stages =
      record {
        answers = by_verdict (plan_refusal s (length marks) (length records)) refl;
        refuses = λ number place. (
          λ h. ap (λ v. outcome v (grown_counts_of (plan_of P))) (refusal_found v (plan_counts_of (plan_of P)) h),
          λ h. ap (λ v. outcome v (plan_counts_of (plan_of P))) (refusal_found v (grown_counts_of (plan_of P)) h),
        );
        grown_marks = λ c h e b. picks_at (answer_fine v (grown_counts_of (plan_of P)) c h).0 e b;
        grown_cost = λ c h. sym (ap (λ (x : PlanCounts). x.cost) (answer_fine v (grown_counts_of (plan_of P)) c h).1);
        marks_refused = λ number place h.
            let r = refusal_found v (grown_counts_of (plan_of P)) h in (
              ap (λ v. written v (picked_marks P ++ drop (edge_count s) marks) marks) r,
              (
                ap (λ v. written v ((plan_of P).marks ++ drop (edge_count s) marks) marks) r,
                ap (λ v. written v (records_over (plan_of P).duals records) records) r,
              ),
            );
        marks_finished = λ c h. stages_marks (answer_fine v (grown_counts_of (plan_of P)) c h).0;
      }

-- ---- the call

-- With its promises, and in stages.
pub planned_call : (s : Survey) → ByteGroups s → (marks records : List ℕ) {o : Outcome PlanCounts} {marked drawn : List ℕ} → o ≡ counting s (length marks) (length records)
    → marked ≡ marks_after s marks records → drawn ≡ records_after s marks records
    → (o ≡ counting s (length marks) (length records))
    × ((marked ≡ marks_after s marks records) × ((drawn ≡ records_after s marks records) × (Promises s marks records o × InStages s marks records)))
planned_call s numbered marks records {o} is marked_is drawn_is =
    (is, (marked_is, (drawn_is, (planning_promises s numbered marks records o is, planning_stages s numbered marks records))))
