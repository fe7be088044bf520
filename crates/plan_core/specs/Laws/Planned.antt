-- Growing and dropping over the poured lists of a sound survey. The growth's picks join every group exactly if all tracks together do, so that pruning them decides 8;
-- what is left then is the plan. `grow_marks` and the functions that call it cite it.
use Prim.Native.Nat.{ℕ, ◌≤◌, ◌<◌}
use Rattle.std.proofs.Common.{arith, ◌∙◌, subst, lt-ltb}
use Rattle.std.specs.Prelude.{◌≡◌, refl, ◌↔◌, Bool, true, false, length}
use Rattle.std.proofs.Math.Path.{ap, sym, fun_ext}
use Rattle.std.proofs.Math.Logic.{⊎_elim}
use Rattle.std.proofs.Math.Bool.{not, cond}
use mathlib.Core.List.{List, [], ◌++◌}
use Rattle.std.proofs.Math.ListN.{get_or, drop, get_or-append, get_or-eq_default}
use Rattle.std.proofs.Math.Dec.{eqb}
use Rattle.base_finite.specs.Below.{counted, tabulate}
use Rattle.base_finite.specs.Laws.Below.{lt_or_ge, length_tabulate, get_d_tabulate, sum_cong}
use Rattle.base_finite.specs.Laws.Test.{and_left, and_both, not_true_false, true_not_false, same_test_law}
use Rattle.base_buffer.specs.Store.{remade}
use Rattle.base_limits.specs.Limits.{max_edges}
use Rattle.base_limits.specs.Verdict.{◌before◌, refusal, answer, written}
use Rattle.base_limits.specs.declared.Verdict.{Verdict}
use Rattle.base_limits.specs.declared.Verdict.TheVariants.{Fine, Refused}
use Rattle.base_limits.specs.Laws.Verdict.{before_fine, fine_right, no_refusal}
use Rattle.theory_graph.proofs.Laws.Linked.{linked_mono}
use Rattle.theory_steiner.specs.Problem.{Problem, Sound, Joins, Bounded, all_usable, cost}
use Rattle.theory_steiner.specs.Growth.{grown}
use Rattle.theory_steiner.specs.Pruning.{needed, picked, kept, mark_of, mark}
use Rattle.theory_steiner.proofs.Laws.Joined.{joined_iff}
use Rattle.theory_steiner.proofs.Laws.Partition.{picked_usable}
use Rattle.theory_steiner.proofs.Laws.Rounds.{grown_reached}
use Rattle.theory_steiner.proofs.Laws.Finish.{picked_joins, picked_acyclic}
use Rattle.survey_core.specs.Survey.{Survey, survey_from, lists_of, vertex_count, edge_count, problem_of}
use Rattle.survey_core.specs.Sound.{SurveySound, ByteGroups}
use Rattle.survey_core.specs.Refusal.{group_refusal}
use Rattle.survey_core.proofs.Laws.Refusal.{survey_sound}
use Rattle.survey_core.proofs.Laws.Group.{group_fine, joins_fine}
use Rattle.survey_components.specs.Labels.{picked_in}
use Rattle.survey_components.specs.Forest.{loop_refusal}
use Rattle.survey_components.specs.Laws.Forest.{forest_fine, unweighted_refusal}
use Rattle.survey_lists.specs.Pouring.{poured_groups, poured_survey}
use Rattle.survey_lists.proofs.Laws.Plan.{poured_sound, poured_joins}
use Rattle.check_rule.specs.Check.{kept_by}
use Rattle.plan_rounds.specs.Grown.{Growth, GrownAfter}
use Rattle.plan_drop.specs.Prunable.{Picks, unweighted}
use Rattle.plan_drop.specs.Judge.{pruned_marks}
use Rattle.plan_drop.specs.Laws.Prunable.{survey_picks, pruned_unweighted}
use Rattle.plan_rule.specs.Plan.{plan_of}
use Rattle.plan_rule.proofs.Laws.Ready.{all_bounded}
use Rattle.plan_rule.proofs.Laws.Stages.{one_or_none}
use Rattle.plan_rule.proofs.Laws.Dropping.{mark_kept}
use Rattle.plan_core.specs.Laws.Finish.{remade_front}
use Rattle.plan_core.specs.Planned.{joinable, marks_joined}

module _ (groups firsts seconds weights : List ℕ) (sound : SurveySound (survey_from groups firsts seconds weights)) {g : Growth}
    (grew : GrownAfter (problem_of (survey_from groups firsts seconds weights)) (length groups) g) where
  abbrev s : Survey
  s = survey_from groups firsts seconds weights

  abbrev p : Problem
  p = problem_of s

  ok : Sound p
  ok = survey_sound s sound

  some : 0 < p.vertices
  unfolding problem_of vertex_count
  some = sound.some

  picked_below : (e : ℕ) → picked p e ≡ true → e < length firsts
  unfolding picked problem_of edge_count
  picked_below e h = (picked_usable (problem_of s) (grown_reached (problem_of s)) e h).0

  picked_long : length g.picked ≡ max_edges
  picked_long = ap length grew.picked_are ∙ length_tabulate max_edges _

  pick_at_law : (e : ℕ) → e < max_edges → get_or g.picked e 0 ≡ counted (picked p e) 1
  unfolding picked grown problem_of vertex_count
  pick_at_law e b = ap (λ (l : List ℕ). get_or l e 0) grew.picked_are ∙ get_d_tabulate max_edges (λ e. counted ((grown (problem_of s)).picked e) 1) e 0 b

  -- What the growth picked.
  pub grown_picks_law : picked_in g.picked ≡ picked p
  unfolding picked_in
  grown_picks_law =
      fun_ext
      (λ e.
      ⊎_elim
      (λ b. ap (λ x. not (eqb x 0)) (pick_at_law e b) ∙ one_or_none (picked p e))
      (λ b.
      ap (λ x. not (eqb x 0)) (get_or-eq_default g.picked 0 (subst (λ n. n ≤ e) (sym picked_long) b))
      ∙ sym (not_true_false (picked p e) (λ h. let few = sound.edges_few in let l = picked_below e h in omega arith)))
      (lt_or_ge e max_edges))

  picked_bounded : Bounded p (picked p)
  unfolding problem_of edge_count
  picked_bounded = picked_below

  pub picks_pruned : Picks groups firsts seconds g.picked
  picks_pruned = survey_picks groups firsts seconds weights g.picked sound (subst (Bounded p) (sym grown_picks_law) picked_bounded)

  picked_all : (e : ℕ) → picked p e ≡ true → all_usable p e ≡ true
  unfolding picked all_usable
  picked_all e h = let l = picked_usable p (grown_reached p) e h in and_both _ _ (lt-ltb e p.edges l.0) l.1

  -- What pruning them finds.
  module _ {found : Verdict}
      (found_is : found ≡ (loop_refusal (survey_from groups firsts seconds []) (picked_in g.picked) before group_refusal (survey_from groups firsts seconds []) 14 (picked_in g.picked))) where
    judged : found ≡ (loop_refusal s (picked p) before group_refusal s 14 (picked p))
    judged =
        found_is
        ∙ unweighted_refusal groups firsts seconds weights (picked_in g.picked)
        ∙ ap (λ (F : ℕ → Bool). loop_refusal s F before group_refusal s 14 F) grown_picks_law

    -- Nothing: all tracks together join every group.
    pub picks_join : ByteGroups s → found ≡ Fine → true ≡ joinable s
    picks_join numbered h =
        let joins : Joins p (picked p) = group_fine s 14 (picked p) picked_bounded numbered (fine_right _ _ (sym judged ∙ h)) in
        sym ((joined_iff p (all_usable p) (all_bounded s)).1 (λ u v bu bv r. linked_mono picked_all (joins u v bu bv r)))

    -- A refusal: they do not.
    pub picks_part : {number place : ℕ} → found ≡ Refused number place → false ≡ joinable s
    picks_part h =
        sym
        (not_true_false (joinable s)
        (λ t.
        let joins : Joins p (all_usable p) = (joined_iff p (all_usable p) (all_bounded s)).0 t in
        no_refusal (sym judged ∙ h)
        (before_fine (forest_fine s (picked p) (picked_acyclic p ok some joins)) _
        ∙ joins_fine s 14 (picked p) picked_bounded (picked_joins p ok some joins))))

    module _ (marks : List ℕ) {marked : List ℕ}
        (marked_is : marked ≡ written found (pruned_marks (unweighted groups firsts seconds) (picked_in g.picked) (length firsts) marks) marks) where
      -- The plan's marks, or those that were.
      pub marks_joined_law : ByteGroups s → length firsts ≤ length marks → found ≡ Fine → marked ≡ marks_joined s marks
      unfolding written pruned_marks marks_joined plan_of mark kept problem_of edge_count
      marks_joined_law numbered fits h =
          marked_is
          ∙ ap (λ v. written v (pruned_marks (unweighted groups firsts seconds) (picked_in g.picked) (length firsts) marks) marks) h
          ∙ pruned_unweighted groups firsts seconds weights (picked_in g.picked) (length firsts) marks
          ∙ ap (λ (F : ℕ → Bool). remade (λ e mark. mark_of (F e) (needed p F e)) (length firsts) marks) grown_picks_law
          ∙ remade_front (λ e mark. mark_of (picked p e) (needed p (picked p) e)) (length firsts) marks fits
          ∙ ap (λ (t : Bool). cond t ((plan_of p).marks ++ drop (length firsts) marks) marks) (picks_join numbered h)

      pub marks_parted : {number place : ℕ} → found ≡ Refused number place → marked ≡ marks_joined s marks
      unfolding written marks_joined
      marks_parted h =
          marked_is
          ∙ ap (λ v. written v (pruned_marks (unweighted groups firsts seconds) (picked_in g.picked) (length firsts) marks) marks) h
          ∙ ap (λ (t : Bool). cond t ((plan_of p).marks ++ drop (length firsts) marks) marks) (picks_part h)

-- ---- the cost

module _ (s : Survey) where
  needed_picked : (e : ℕ) → kept (problem_of s) e ≡ true → picked (problem_of s) e ≡ true
  unfolding kept needed
  needed_picked e h = and_left (picked (problem_of s) e) _ h

  kept_marked : (rest : List ℕ) (e : ℕ) → e < (problem_of s).edges → kept_by ((plan_of (problem_of s)).marks ++ rest) e ≡ kept (problem_of s) e
  unfolding kept_by plan_of mark
  kept_marked rest e b =
      ap (λ x. eqb x 2)
      (get_or-append (tabulate (problem_of s).edges (mark (problem_of s))) rest 0 e
      (subst (λ m. e < m) (sym (length_tabulate (problem_of s).edges (mark (problem_of s)))) b)
      ∙ get_d_tabulate (problem_of s).edges (mark (problem_of s)) e 0 b)
      ∙ mark_kept (picked (problem_of s) e) (kept (problem_of s) e) (needed_picked e)

  -- Of marks that are the plan's.
  pub planned_cost : (rest : List ℕ) {c : ℕ} {marks : List ℕ} → marks ≡ (plan_of (problem_of s)).marks ++ rest
      → c ≡ cost (problem_of (survey_from [] s.firsts [] s.weights)) (kept_by marks) → c ≡ (plan_of (problem_of s)).cost
  unfolding plan_of cost problem_of edge_count
  planned_cost rest marks_are c_is =
      c_is
      ∙ ap (λ (l : List ℕ). cost (problem_of (survey_from [] s.firsts [] s.weights)) (kept_by l)) marks_are
      ∙ sum_cong (length s.firsts) _ _ (λ e b. ap (λ t. counted t (get_or s.weights e 0)) (kept_marked rest e b))

-- ---- the lists

module _ (s : Survey) where
  pub joinable_joins : joinable s ≡ true → Joins (problem_of s) (all_usable (problem_of s))
  joinable_joins = (joined_iff (problem_of s) (all_usable (problem_of s)) (all_bounded s)).0

  joins_joinable : Joins (problem_of s) (all_usable (problem_of s)) → joinable s ≡ true
  joins_joinable = (joined_iff (problem_of s) (all_usable (problem_of s)) (all_bounded s)).1

  -- 8 comes of lists that cannot be joined.
  pub unjoined_comes : ByteGroups s → joinable s ≡ false → group_refusal s 8 (all_usable (problem_of s)) ≡ Fine → {A : Type 0} → A
  unjoined_comes numbered parted h =
      true_not_false (joinable s) (joins_joinable (group_fine s 8 (all_usable (problem_of s)) (all_bounded s) numbered h)) parted

module _ (s : Survey) (sound : SurveySound s) {part : List ℕ} (part_is : part ≡ poured_groups (lists_of s)) where
  into_is : survey_from part s.firsts s.seconds s.weights ≡ poured_survey s
  into_is = ap (λ (groups : List ℕ). survey_from groups s.firsts s.seconds s.weights) part_is

  pub into_sound : SurveySound (survey_from part s.firsts s.seconds s.weights)
  into_sound = subst SurveySound (sym into_is) (poured_sound s sound)

  joins_both : Joins (problem_of s) (all_usable (problem_of s)) ↔ Joins (problem_of (poured_survey s)) (all_usable (problem_of (poured_survey s)))
  unfolding all_usable problem_of edge_count
  joins_both = poured_joins s sound.pairs (all_usable (problem_of s)) (all_bounded s)

  -- The poured groups can be joined exactly if the lists can.
  pub joinable_poured : joinable (survey_from part s.firsts s.seconds s.weights) ≡ joinable s
  joinable_poured =
      ap joinable into_is
      ∙ same_test_law (joinable (poured_survey s)) (joinable s)
      (λ h. joins_joinable s (joins_both.1 (joinable_joins (poured_survey s) h)))
      (λ h. joins_joinable (poured_survey s) (joins_both.0 (joinable_joins s h)))

-- Which of the two was answered.
pub joined_by : {A : Type 0} (t : Bool) (f : A) {c : A} → cond t (answer f) (refusal 8 0) ≡ answer c → t ≡ true
joined_by true f h = refl
joined_by false f h = absurd (let z : ◌≡◌ {A = ℕ} 0 1 = cc in omega arith)

pub parted_by : {A : Type 0} (t : Bool) (f : A) {number place : ℕ} → cond t (answer f) (refusal 8 0) ≡ refusal number place → t ≡ false
parted_by true f h = absurd (let z : ◌≡◌ {A = ℕ} 0 1 = cc in omega arith)
parted_by false f h = refl
