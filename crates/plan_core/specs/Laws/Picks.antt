-- From what pruning the poured groups leaves to what dropping answers for the lists. `prune_plan` cites it.
use Prim.Native.Nat.{ℕ, ◌-◌, ◌≤◌, ◌<◌}
use Rattle.std.proofs.Common.{arith, ◌∙◌, subst, get_or-take, length-take-le}
use Rattle.std.proofs.Math.Nat.{sub-zero}
use Rattle.std.specs.Prelude.{◌≡◌, Bool, true, false, length, take, replicate, ltb}
use Rattle.std.proofs.Math.Path.{refl, ap, sym, fun_ext}
use Rattle.std.proofs.Math.Logic.{⊎_elim}
use Rattle.std.proofs.Math.Bool.{not}
use mathlib.Core.List.{List, []}
use Rattle.std.proofs.Math.ListN.{get_or, get_or-eq_default}
use Rattle.std.proofs.lemmas.List.{length-replicate}
use Rattle.std.proofs.Math.Dec.{eqb}
use Rattle.base_finite.specs.Below.{counted}
use Rattle.base_finite.specs.Laws.Below.{lt_or_ge}
use Rattle.base_finite.specs.Laws.Test.{not_true_false}
use Rattle.base_buffer.specs.Store.{remade}
use Rattle.base_buffer.proofs.Laws.Store.{length_remade, remade_passed, remade_table}
use Rattle.base_limits.specs.Limits.{max_edges}
use Rattle.base_limits.specs.Verdict.{refuse_if, ◌before◌, lowest_below, Outcome, outcome, written}
use Rattle.base_limits.specs.declared.Verdict.{Verdict}
use Rattle.base_limits.specs.declared.Verdict.TheVariants.{Fine, Refused}
use Rattle.base_limits.specs.Laws.Verdict.{before_refused, before_assoc, fine_left, fine_right, no_refusal}
use Rattle.theory_steiner.specs.Problem.{Bounded, terminals, cost}
use Rattle.theory_steiner.specs.Pruning.{needed, mark_of}
use Rattle.survey_core.specs.Survey.{Survey, survey_from, lists_of, groups_alone, vertex_count, edge_count, problem_of}
use Rattle.survey_core.specs.Sound.{ByteGroups}
use Rattle.survey_core.specs.Refusal.{survey_refusal, group_refusal}
use Rattle.survey_core.proofs.Laws.Group.{group_refused}
use Rattle.survey_components.specs.Labels.{chosen, chosen_mark, picked_in}
use Rattle.survey_components.specs.declared.Chosen.TheVariants.{Kept}
use Rattle.survey_components.specs.Forest.{closes_loop, loop_refusal}
use Rattle.survey_components.specs.Laws.Forest.{unweighted_refusal}
use Rattle.survey_components.specs.Laws.Picked.{picked_below}
use Rattle.survey_lists.specs.Pouring.{poured_groups, poured_survey}
use Rattle.survey_lists.proofs.Laws.Pouring.{length_poured}
use Rattle.survey_lists.proofs.Laws.Split.{poured_refusal}
use Rattle.check_rule.specs.Check.{kept_by}
use Rattle.plan_drop.specs.Prunable.{Picks, unweighted}
use Rattle.plan_drop.specs.Judge.{pruned_marks}
use Rattle.plan_drop.specs.Laws.Prunable.{survey_picks, pruned_unweighted}
use Rattle.plan_rule.specs.Plan.{Plan, plan_of}
use Rattle.plan_rule.specs.Dropping.{drop_refusal, DropCounts, drop_counts_of, dropping, needed_marks, marks_dropped}
use Rattle.plan_rule.specs.DropPromise.{Marked, Droppable, DropPromises}
use Rattle.plan_rule.proofs.Laws.Dropping.{marked_later, stages_marked, loop_lowest, picks_bounded, fine_droppable, kept_cost_law, dropping_promises}
use Rattle.plan_rule.proofs.Laws.Same.{plan_terminals, plan_poured, poured_needed}
use Rattle.plan_rule.specs.declared.Dropped.TheVariants.{Finished, Refused as DropRefused}
use Rattle.plan_rule.specs.Answer.{dropped_outcome}
use Rattle.plan_core.specs.Picks.{marked_refusal, by_lists}
use Rattle.plan_core.specs.Laws.Planned.{into_sound}

-- ---- the tests up to 10

pub marked_fine : (s : Survey) (marks : List ℕ) → marked_refusal s marks ≡ Fine → Marked s marks
unfolding marked_refusal
marked_fine s marks h = stages_marked s marks (fine_left _ _ h) (fine_left _ _ (fine_right _ _ h)) (fine_right _ _ (fine_right _ _ h))

pub marked_stops : (s : Survey) (marks : List ℕ) {number place : ℕ} → marked_refusal s marks ≡ Refused number place → drop_refusal s marks ≡ Refused number place
unfolding marked_refusal drop_refusal
marked_stops s marks h =
    let later : Verdict = loop_refusal s (picked_in marks) before group_refusal s 14 (picked_in marks) in
    let tens : Verdict = lowest_below (edge_count s) (λ e. refuse_if (ltb 1 (get_or marks e 0)) 10 e) in
    let nines : Verdict = refuse_if (not (eqb (length marks) (edge_count s))) 9 0 in
    sym
    (before_assoc (survey_refusal s) (nines before tens) later
    ∙ ap (λ v. survey_refusal s before v) (before_assoc nines tens later))
    ∙ before_refused h later

-- ---- the picks

two_or_none : (t : Bool) → not (eqb (counted t 2) 0) ≡ t
unfolding counted
two_or_none true = refl
two_or_none false = refl

two_is_kept : (t : Bool) → eqb (counted t 2) 2 ≡ t
unfolding counted
two_is_kept true = refl
two_is_kept false = refl

module _ (s : Survey) (marks : List ℕ) (marked : Marked s marks) {all : List ℕ}
    (all_are : all ≡ remade (λ e x. counted (picked_in marks e) 2) (length s.firsts) (replicate max_edges 0)) where
  abbrev m : ℕ
  m = length s.firsts

  -- The part that is lent.
  abbrev picks : List ℕ
  picks = take (m - 0) all

  all_long : length all ≡ max_edges
  all_long = ap length all_are ∙ length_remade _ m (replicate max_edges 0) ∙ length-replicate {A = ℕ} max_edges 0

  pub picks_long : length picks ≡ m
  picks_long =
      let few = marked.survey.edges_few in
      rw (sub-zero m) (length-take-le m all (omega (arith, all_long)))

  pick_at_law : (e : ℕ) → e < m → get_or picks e 0 ≡ counted (picked_in marks e) 2
  pick_at_law e b =
      let few = marked.survey.edges_few in
      rw (sub-zero m)
      (get_or-take m all e 0 b
      ∙ ap (λ l. get_or l e 0) all_are
      ∙ remade_passed (λ e x. counted (picked_in marks e) 2) m (replicate max_edges 0) e b (omega (arith, length-replicate {A = ℕ} max_edges 0)))

  past : (e : ℕ) → m ≤ e → get_or picks e 0 ≡ 0
  past e b = get_or-eq_default picks 0 (subst (λ x. x ≤ e) (sym picks_long) b)

  unpicked : (e : ℕ) → m ≤ e → picked_in marks e ≡ false
  unfolding edge_count
  unpicked e b =
      not_true_false (picked_in marks e) (λ h. let l = picked_below marks e h in let long = marked.marks_long in omega arith)

  -- They pick what the marks pick, and keep all of it.
  pub picks_same : picked_in picks ≡ picked_in marks
  unfolding picked_in
  picks_same =
      fun_ext
      (λ e.
      ⊎_elim
      (λ b. ap (λ x. not (eqb x 0)) (pick_at_law e b) ∙ two_or_none (not (eqb (get_or marks e 0) 0)))
      (λ b. ap (λ x. not (eqb x 0)) (past e b) ∙ sym (unpicked e b))
      (lt_or_ge e m))

  pub picks_kept : chosen Kept picks ≡ picked_in marks
  unfolding chosen chosen_mark
  picks_kept =
      fun_ext
      (λ e.
      ⊎_elim
      (λ b. ap (λ x. eqb x 2) (pick_at_law e b) ∙ two_is_kept (picked_in marks e))
      (λ b. ap (λ x. eqb x 2) (past e b) ∙ sym (unpicked e b))
      (lt_or_ge e m))

  module _ (numbered : ByteGroups s) {part : List ℕ} (part_is : part ≡ poured_groups (lists_of s)) where
    abbrev into : Survey
    into = survey_from part s.firsts s.seconds s.weights

    abbrev F : ℕ → Bool
    F = picked_in marks

    into_is : into ≡ poured_survey s
    into_is = ap (λ (groups : List ℕ). survey_from groups s.firsts s.seconds s.weights) part_is

    bounded : Bounded (problem_of s) F
    bounded = picks_bounded s marks marked.marks_long

    bounded_poured : Bounded (problem_of (poured_survey s)) F
    unfolding problem_of edge_count
    bounded_poured = bounded

    -- Loops do not depend on the groups.
    loops_same : loop_refusal (poured_survey s) F ≡ loop_refusal s F
    unfolding loop_refusal problem_of vertex_count edge_count
    loops_same =
        ap
        (λ (n : ℕ). lowest_below (length s.firsts) (λ e. refuse_if (closes_loop n (λ e. get_or s.firsts e 0) (λ e. get_or s.seconds e 0) (picked_in marks) e) 21 e))
        (length_poured (lists_of s))

    -- Picks that pruning takes.
    pub picks_taken : Picks part s.firsts s.seconds picks
    unfolding problem_of edge_count
    picks_taken =
        survey_picks part s.firsts s.seconds s.weights picks (into_sound s marked.survey part_is)
        (subst (Bounded (problem_of into)) (sym picks_same) bounded)

    forest_is :
        (loop_refusal (survey_from part s.firsts s.seconds []) (picked_in picks) before group_refusal (survey_from part s.firsts s.seconds []) 14 (picked_in picks))
        ≡ (loop_refusal s F before group_refusal (poured_survey s) 14 F)
    forest_is =
        unweighted_refusal part s.firsts s.seconds s.weights (picked_in picks)
        ∙ ap (λ (G : ℕ → Bool). loop_refusal into G before group_refusal into 14 G) picks_same
        ∙ ap (λ (q : Survey). loop_refusal q F before group_refusal q 14 F) into_is
        ∙ ap (λ (v : Verdict). v before group_refusal (poured_survey s) 14 F) loops_same

    lists_is : group_refusal s 14 (chosen Kept picks) ≡ group_refusal s 14 F
    lists_is = ap (λ (G : ℕ → Bool). group_refusal s 14 G) picks_kept

    -- How what is found of the poured groups stands to what is found of the lists.
    record Judged (v w : Verdict) : Type 0 where
      answers : by_lists v (group_refusal s 14 F) ≡ w
      writes : (made : List ℕ) → written v made marks ≡ written w made marks

    apart_writes : {k g : ℕ} → group_refusal (poured_survey s) 14 F ≡ Refused k g → (made : List ℕ) (z : Verdict) → group_refusal s 14 F ≡ z → written z made marks ≡ marks
    unfolding written
    apart_writes h made Fine e = absurd (no_refusal h ((poured_refusal s 14 F marked.survey.pairs numbered bounded).0 e))
    apart_writes h made (Refused number place) e = refl

    judged_by : (u x : Verdict) → loop_refusal s F ≡ u → group_refusal (poured_survey s) 14 F ≡ x
        → Judged (loop_refusal s F before group_refusal (poured_survey s) 14 F) (loop_refusal s F before group_refusal s 14 F)
    unfolding by_lists written ◌before◌
    judged_by (Refused number place) x h k =
        let n : number ≡ 21 = (loop_lowest s marks marked number place h).0 in
        let l : loop_refusal s F ≡ Refused 21 place = h ∙ ap (λ (i : ℕ). Refused i place) n in
        record { answers = rw l; writes = λ made. rw l }
    judged_by Fine Fine h k =
        let g : group_refusal s 14 F ≡ Fine = (poured_refusal s 14 F marked.survey.pairs numbered bounded).1 k in
        record { answers = rw (h, k, g); writes = λ made. rw (h, k, g) }
    judged_by Fine (Refused number g) h k =
        let n : number ≡ 14 = (group_refused (poured_survey s) 14 F bounded_poured number g k).0 in
        let l : group_refusal (poured_survey s) 14 F ≡ Refused 14 g = k ∙ ap (λ (i : ℕ). Refused i g) n in
        record {
          answers = rw (h, l);
          writes = λ made. rw (h, l) (sym (apart_writes k made (group_refusal s 14 F) refl));
        }

    judged : Judged (loop_refusal s F before group_refusal (poured_survey s) 14 F) (loop_refusal s F before group_refusal s 14 F)
    judged = judged_by (loop_refusal s F) (group_refusal (poured_survey s) 14 F) refl refl

    module _ {v : Verdict}
        (v_is : v ≡ (loop_refusal (survey_from part s.firsts s.seconds []) (picked_in picks) before group_refusal (survey_from part s.firsts s.seconds []) 14 (picked_in picks))) where
      -- What the code finds is dropping's verdict.
      pub judged_verdict : {found : Verdict} → found ≡ by_lists v (group_refusal s 14 (chosen Kept picks)) → found ≡ drop_refusal s marks
      judged_verdict found_is =
          found_is
          ∙ ap (λ (x : Verdict). by_lists x (group_refusal s 14 (chosen Kept picks))) (v_is ∙ forest_is)
          ∙ ap (by_lists (loop_refusal s F before group_refusal (poured_survey s) 14 F)) lists_is
          ∙ judged.answers
          ∙ sym (marked_later s marks marked)

      abbrev made : List ℕ
      made = pruned_marks (unweighted part s.firsts s.seconds) (picked_in picks) (length s.firsts) marks

      marks_made : made ≡ needed_marks s marks
      unfolding pruned_marks needed_marks edge_count
      marks_made =
          pruned_unweighted part s.firsts s.seconds s.weights (picked_in picks) (length s.firsts) marks
          ∙ ap (λ (q : Survey). pruned_marks (problem_of q) (picked_in picks) (length s.firsts) marks) into_is
          ∙ ap (λ (G : ℕ → Bool). remade (λ e mark. mark_of (G e) (needed (problem_of (poured_survey s)) G e)) (length s.firsts) marks) picks_same
          ∙ remade_table (λ e mark. mark_of (F e) (needed (problem_of (poured_survey s)) F e)) (length s.firsts) marks
          (λ e. mark_of (F e) (needed (problem_of s) F e)) marked.marks_long
          (λ e b. ap (mark_of (F e)) (sym (poured_needed s marked.survey.pairs F bounded e)))

      -- And so are the marks.
      pub judged_marks : {after : List ℕ} → after ≡ written v made marks → after ≡ marks_dropped s marks
      unfolding marks_dropped
      judged_marks is =
          is
          ∙ ap (λ (x : Verdict). written x made marks) (v_is ∙ forest_is)
          ∙ judged.writes made
          ∙ ap (λ (l : List ℕ). written (loop_refusal s F before group_refusal s 14 F) l marks) marks_made
          ∙ ap (λ (x : Verdict). written x (needed_marks s marks) marks) (sym (marked_later s marks marked))

    weights_alone : (K : ℕ → Bool) → cost (problem_of (survey_from [] s.firsts [] s.weights)) K ≡ cost (problem_of s) K
    unfolding cost problem_of edge_count
    weights_alone K = refl

    -- The figures of what is left.
    pub finished_answer : {k c : ℕ} {after : List ℕ} → drop_refusal s marks ≡ Fine → after ≡ marks_dropped s marks
        → k ≡ terminals (problem_of (groups_alone part)) → c ≡ cost (problem_of (survey_from [] s.firsts [] s.weights)) (kept_by after)
        → dropped_outcome (Finished k c) ≡ dropping s marks
    unfolding dropped_outcome dropping outcome drop_counts_of marks_dropped written plan_of
    finished_answer {k} {c} fine after_is k_is c_is = rw (k_same, c_same, fine)
      where
        ok : Droppable s marks
        ok = fine_droppable s marks numbered fine

        k_same : k ≡ terminals (problem_of s)
        k_same =
            k_is ∙ plan_terminals part s.firsts s.seconds s.weights
            ∙ ap (λ (q : Plan). q.terminals) (plan_poured s marked.survey part_is)

        c_same : c ≡ cost (problem_of s) (needed (problem_of s) F)
        c_same =
            c_is ∙ ap (λ (l : List ℕ). cost (problem_of (survey_from [] s.firsts [] s.weights)) (kept_by l))
            (after_is ∙ ap (λ (v : Verdict). written v (needed_marks s marks) marks) fine)
            ∙ weights_alone (kept_by (needed_marks s marks))
            ∙ kept_cost_law s marks ok

-- ---- the call

pub refused_answer : (s : Survey) (marks : List ℕ) {v : Verdict} {number place : ℕ} → v ≡ drop_refusal s marks → v ≡ Refused number place
    → dropped_outcome (DropRefused number place) ≡ dropping s marks
unfolding dropped_outcome dropping outcome
refused_answer s marks is h = sym (ap (λ (v : Verdict). outcome v (drop_counts_of s marks)) (sym is ∙ h))

pub refused_marks : (s : Survey) (marks : List ℕ) {v : Verdict} {number place : ℕ} → v ≡ drop_refusal s marks → v ≡ Refused number place → marks ≡ marks_dropped s marks
unfolding marks_dropped written
refused_marks s marks is h = sym (ap (λ (v : Verdict). written v (needed_marks s marks) marks) (sym is ∙ h))

pub promised_call : (s : Survey) → ByteGroups s → (marks : List ℕ) {after : List ℕ} {o : Outcome DropCounts} → o ≡ dropping s marks → after ≡ marks_dropped s marks
    → (o ≡ dropping s marks) × ((after ≡ marks_dropped s marks) × DropPromises s marks after o)
promised_call s numbered marks {after} {o} is left =
    (is, (left, subst (λ (l : List ℕ). DropPromises s marks l o) (sym left) (dropping_promises s numbered marks o is)))
