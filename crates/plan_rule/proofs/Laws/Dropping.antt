-- What dropping does to any marks that it accepts: when it finishes, which tracks it keeps, and when 21 and 14 come (document 02, No. 7; source 001, Lemma 22.6, for any forest that joins).
use Prim.Native.Nat.{ℕ, zero, suc, ◌≤◌, ◌<◌}
use Rattle.std.proofs.Common.{arith, ◌∙◌, eqb-true, eq-eqb, ltb-true, ltb-false, le-ltb}
use Rattle.std.specs.Prelude.{◌≡◌, refl, ◌⊎◌, ◌↔◌, List, length, get_or, ltb}
use Rattle.std.proofs.Math.Path.{ap, sym, subst}
use Rattle.std.proofs.Math.Logic.{inl, inr, ⊎_elim}
use Rattle.std.proofs.Math.Bool.{Bool, true, false, not}
use Rattle.std.proofs.Math.ListN.{get_or-eq_default}
use Rattle.std.proofs.Math.Dec.{eqb}
use Rattle.std.proofs.lemmas.Bool.{not-false}
use Rattle.base_finite.specs.Below.{counted, tabulate}
use Rattle.base_finite.specs.Laws.Below.{sum_cong, lt_or_ge, length_tabulate, get_d_tabulate}
use Rattle.base_finite.specs.Laws.Test.{and_left, and_right, and_both, not_true_false, true_not_false, not_of_false}
use Rattle.base_limits.specs.Limits.{group_numbers}
use Rattle.base_limits.specs.Verdict.{refuse_if, ◌before◌, lowest_below, Outcome, refusal, answer, outcome, written}
use Rattle.base_limits.specs.declared.Verdict.{Verdict}
use Rattle.base_limits.specs.declared.Verdict.TheVariants.{Fine, Refused}
use Rattle.base_limits.specs.Laws.Verdict.{before_fine, before_refused, fine_left, fine_right, refuse_true, refuse_false, fine_refuse, lowest_none, none_lowest, lowest_found, lowest_elim, Lowest, refused_refuse, answer_fine, refusal_found}
use Rattle.theory_graph.specs.Path.{without}
use Rattle.theory_graph.specs.Component.{components}
use Rattle.theory_graph.proofs.Laws.Linked.{linked_mono, without_intro, without_mono}
use Rattle.theory_graph.proofs.Laws.Component.{components_iff}
use Rattle.theory_graph.proofs.Laws.Forest.{needed_joins}
use Rattle.theory_steiner.specs.Problem.{Bounded, Joins, joined, terminals, cost}
use Rattle.theory_steiner.specs.Pruning.{needed, mark_of}
use Rattle.theory_steiner.proofs.Laws.Joined.{joined_elim, needed_iff}
use Rattle.survey_core.specs.Survey.{Survey, vertex_count, edge_count, problem_of, group_joined, components_of}
use Rattle.survey_core.specs.Accuracy.{Accurate}
use Rattle.survey_core.specs.Sound.{ByteGroups}
use Rattle.survey_core.specs.Refusal.{survey_refusal, group_refusal}
use Rattle.survey_core.proofs.Laws.Refusal.{survey_fine, fine_survey}
use Rattle.survey_core.proofs.Laws.Group.{group_fine, joins_fine, group_refused, group_joined_intro, group_joined_elim}
use Rattle.survey_components.specs.Labels.{picked_in}
use Rattle.survey_components.specs.Forest.{closes_loop, loop_refusal}
use Rattle.survey_components.specs.Laws.Picked.{picked_below}
use Rattle.survey_components.specs.Laws.Forest.{forest_fine, fine_forest}
use Rattle.check_rule.specs.Check.{kept_by}
use Rattle.check_rule.proofs.Laws.Accuracy.{passing_accurate, checking_bound, checking_passing}
use Rattle.plan_rule.specs.Dropping.{drop_refusal, DropCounts, drop_counts_of, dropping, needed_marks, marks_dropped}
use Rattle.plan_rule.specs.DropPromise.{Marked, PicksForest, LinkedBelow, Droppable, LowestLoop, LowestApart, DroppedMarks, LoopFound, DropPromises}
use Rattle.plan_rule.proofs.Laws.Number.{before_cases, refuse_never, lowest_never, survey_never}

-- A mark of 2 is that of a needed edge.
pub mark_kept : (x y : Bool) → (y ≡ true → x ≡ true) → eqb (mark_of x y) 2 ≡ y
unfolding mark_of
mark_kept true true h = refl
mark_kept true false h = refl
mark_kept false false h = refl
mark_kept false true h = h refl

module _ (s : Survey) (marks : List ℕ) where
  abbrev F : ℕ → Bool
  F = picked_in marks

  abbrev a : ℕ → ℕ
  a = (problem_of s).first

  abbrev b : ℕ → ℕ
  b = (problem_of s).second

  -- Behind 10.
  abbrev later : Verdict
  later = loop_refusal s F before group_refusal s 14 F

  -- ---- the tests up to 10

  pub picks_bounded : length marks ≡ edge_count s → Bounded (problem_of s) F
  unfolding problem_of
  picks_bounded long e f = subst (λ m. e < m) long (picked_below marks e f)

  pub stages_marked : survey_refusal s ≡ Fine → refuse_if (not (eqb (length marks) (edge_count s))) 9 0 ≡ Fine
      → lowest_below (edge_count s) (λ e. refuse_if (ltb 1 (get_or marks e 0)) 10 e) ≡ Fine → Marked s marks
  stages_marked u v w =
      record {
        survey = fine_survey s u;
        marks_long = eqb-true (length marks) (edge_count s) (not-false (eqb (length marks) (edge_count s)) (fine_refuse _ 9 0 v));
        marks_known = λ e l. ltb-false 1 (get_or marks e 0) (fine_refuse (ltb 1 (get_or marks e 0)) 10 e (none_lowest (edge_count s) _ w e l));
      }

  pub marked_later : Marked s marks → drop_refusal s marks ≡ later
  unfolding drop_refusal
  marked_later h =
      before_fine (survey_fine s h.survey) _
      ∙ before_fine (refuse_false (ap not (eq-eqb (length marks) (edge_count s) h.marks_long)) 9 0) _
      ∙ before_fine
      (lowest_none (edge_count s) (λ e. refuse_if (ltb 1 (get_or marks e 0)) 10 e) (λ e l. refuse_false (le-ltb 1 (get_or marks e 0) (h.marks_known e l)) 10 e)) _

  -- Where nothing is found, nothing is found up to 10, nor behind it.
  pub fine_marked : drop_refusal s marks ≡ Fine → Marked s marks
  unfolding drop_refusal
  fine_marked h = stages_marked (fine_left _ _ h) (fine_left _ _ (fine_right _ _ h)) (fine_left _ _ (fine_right _ _ (fine_right _ _ h)))

  -- A number that none of the tests up to 10 has comes of those behind it.
  late_marked : (k place : ℕ) → (k ≡ 18 → ⊥) → 6 < k → (9 ≡ k → ⊥) → (10 ≡ k → ⊥) → drop_refusal s marks ≡ Refused k place
      → Marked s marks × (later ≡ Refused k place)
  unfolding drop_refusal
  late_marked k place no18 above no9 no10 h = first_stage (before_cases _ _ h)
    where
      third_stage : survey_refusal s ≡ Fine → refuse_if (not (eqb (length marks) (edge_count s))) 9 0 ≡ Fine
          → (lowest_below (edge_count s) (λ e. refuse_if (ltb 1 (get_or marks e 0)) 10 e) ≡ Refused k place)
          ⊎ ((lowest_below (edge_count s) (λ e. refuse_if (ltb 1 (get_or marks e 0)) 10 e) ≡ Fine) × (later ≡ Refused k place))
          → Marked s marks × (later ≡ Refused k place)
      third_stage u v (inl x) =
          absurd
          ((lowest_never k (edge_count s) (λ e. refuse_if (ltb 1 (get_or marks e 0)) 10 e) (λ e. refuse_never (ltb 1 (get_or marks e 0)) k 10 e no10)
          ).other k place x refl)
      third_stage u v (inr x) = (stages_marked u v x.0, x.1)

      second_stage : survey_refusal s ≡ Fine
          → (refuse_if (not (eqb (length marks) (edge_count s))) 9 0 ≡ Refused k place)
          ⊎ ((refuse_if (not (eqb (length marks) (edge_count s))) 9 0 ≡ Fine)
          × ((lowest_below (edge_count s) (λ e. refuse_if (ltb 1 (get_or marks e 0)) 10 e) before later) ≡ Refused k place))
          → Marked s marks × (later ≡ Refused k place)
      second_stage u (inl x) = absurd ((refuse_never (not (eqb (length marks) (edge_count s))) k 9 0 no9).other k place x refl)
      second_stage u (inr x) = third_stage u x.0 (before_cases _ _ x.1)

      first_stage : (survey_refusal s ≡ Refused k place)
          ⊎ ((survey_refusal s ≡ Fine)
          × ((refuse_if (not (eqb (length marks) (edge_count s))) 9 0 before lowest_below (edge_count s) (λ e. refuse_if (ltb 1 (get_or marks e 0)) 10 e) before later)
          ≡ Refused k place))
          → Marked s marks × (later ≡ Refused k place)
      first_stage (inl x) = absurd ((survey_never k no18 above s).other k place x refl)
      first_stage (inr x) = second_stage x.0 (before_cases _ _ x.1)

  -- ---- 21

  linked_closes : (e : ℕ) → F e ≡ true → LinkedBelow s marks e → closes_loop (vertex_count s) a b F e ≡ true
  unfolding closes_loop
  linked_closes e f l =
      let label : ℕ → ℕ = components (vertex_count s) a b F e in
      and_both (F e) (eqb (label (a e)) (label (b e))) f (eq-eqb (label (a e)) (label (b e)) ((components_iff (vertex_count s) a b F e (a e) (b e)).1 l))

  closes_linked : (e : ℕ) → closes_loop (vertex_count s) a b F e ≡ true → (F e ≡ true) × LinkedBelow s marks e
  unfolding closes_loop
  closes_linked e h =
      let label : ℕ → ℕ = components (vertex_count s) a b F e in
      let one : Bool = eqb (label (a e)) (label (b e)) in (
        and_left (F e) one h,
        (components_iff (vertex_count s) a b F e (a e) (b e)).0 (eqb-true (label (a e)) (label (b e)) (and_right (F e) one h)),
      )

  -- Loops are refused with 21, at the lowest track that closes one.
  pub loop_lowest : Marked s marks → (number e : ℕ) → loop_refusal s F ≡ Refused number e → (number ≡ 21) × LowestLoop s marks e
  unfolding loop_refusal
  loop_lowest marked number e h =
      let test : ℕ → Bool = closes_loop (vertex_count s) a b F in
      let l : Lowest (edge_count s) (λ e. refuse_if (test e) 21 e) number e = lowest_elim (edge_count s) (λ e. refuse_if (test e) 21 e) number e h in
      let r = refused_refuse (test l.at) 21 l.at number e l.found in
      let at : l.at ≡ e = r.1.1 in
      let c = closes_linked e (subst (λ x. test x ≡ true) at r.0) in (
        sym r.1.0,
        record {
          marked = marked;
          picked = c.0;
          closes = c.1;
          lower_open = λ i less f linked.
              true_not_false (test i) (linked_closes i f linked)
              (fine_refuse (test i) 21 i (l.none_before i (subst (λ x. i < x) (sym at) less)));
        },
      )

  lowest_loop : (e : ℕ) → LowestLoop s marks e → loop_refusal s F ≡ Refused 21 e
  unfolding loop_refusal problem_of
  lowest_loop e h =
      let test : ℕ → Bool = closes_loop (vertex_count s) (problem_of s).first (problem_of s).second F in
      lowest_found (edge_count s) e (λ i. refuse_if (test i) 21 i) (picks_bounded h.marked.marks_long e h.picked)
      (lowest_none e (λ i. refuse_if (test i) 21 i)
      (λ i less. refuse_false (not_true_false (test i) (λ t. let c = closes_linked i t in h.lower_open i less c.0 c.1)) 21 i))
      (refuse_true (linked_closes e h.picked h.closes) 21 e)

  -- A loop is no forest.
  pub loop_no_forest : (e : ℕ) → F e ≡ true → LinkedBelow s marks e → PicksForest s marks → ⊥
  loop_no_forest e f linked forest =
      forest e f
      (linked_mono
      (λ g h. without_intro F e g (and_right (ltb g e) (F g) h) (λ same. let l : g < e = ltb-true g e (and_left (ltb g e) (F g) h) in omega arith))
      linked)

  twenty_one : (e : ℕ) → drop_refusal s marks ≡ Refused 21 e → LowestLoop s marks e
  twenty_one e h = by (late_marked 21 e (λ q. omega arith) (omega arith) (λ q. omega arith) (λ q. omega arith) h)
    where
      by : Marked s marks × (later ≡ Refused 21 e) → LowestLoop s marks e
      by x =
          ⊎_elim
          (λ l. (loop_lowest x.0 21 e l).1)
          (λ g. absurd (let n = (group_refused s 14 F (picks_bounded x.0.marks_long) 21 e g.1).0 in omega arith))
          (before_cases _ _ x.1)

  -- No forest is refused with 21 at some track.
  no_forest_found : Marked s marks → (PicksForest s marks → ⊥) → (v : Verdict) → loop_refusal s F ≡ v → LoopFound (dropping s marks)
  unfolding dropping outcome
  no_forest_found marked loops Fine h = absurd (loops (fine_forest s F (picks_bounded marked.marks_long) h))
  no_forest_found marked loops (Refused number place) h =
      record {
        at = place;
        found =
            ap (λ v. outcome v (drop_counts_of s marks))
            (marked_later marked ∙ before_refused (h ∙ ap (λ n. Refused n place) (loop_lowest marked number place h).0) _);
      }

  -- ---- 14

  fourteen : (g : ℕ) → drop_refusal s marks ≡ Refused 14 g → LowestApart s marks g
  fourteen g h = by (late_marked 14 g (λ q. omega arith) (omega arith) (λ q. omega arith) (λ q. omega arith) h)
    where
      by : Marked s marks × (later ≡ Refused 14 g) → LowestApart s marks g
      by x =
          let bounded = picks_bounded x.0.marks_long in
          ⊎_elim
          (λ l. absurd (let n = (loop_lowest x.0 14 g l).0 in omega arith))
          (λ r. record { marked = x.0; forest = fine_forest s F bounded r.0; lowest = (group_refused s 14 F bounded 14 g r.1).1 })
          (before_cases _ _ x.1)

  apart_fourteen : (g : ℕ) → LowestApart s marks g → drop_refusal s marks ≡ Refused 14 g
  unfolding group_refusal
  apart_fourteen g h =
      let bounded = picks_bounded h.marked.marks_long in
      marked_later h.marked
      ∙ before_fine (forest_fine s F h.forest) _
      ∙ lowest_found group_numbers g _ h.lowest.below
      (lowest_none g _ (λ i l. refuse_false (rw (group_joined_intro s F bounded i (h.lowest.lower i l))) 14 i))
      (refuse_true
      (not_of_false (group_joined s (components_of s F) g)
      (not_true_false (group_joined s (components_of s F) g) (λ k. h.lowest.unjoined (group_joined_elim s F g k)))) 14 g)

  -- ---- finished

  pub droppable_fine : Droppable s marks → drop_refusal s marks ≡ Fine
  droppable_fine h =
      marked_later h.marked
      ∙ before_fine (forest_fine s F h.forest) _
      ∙ joins_fine s 14 F (picks_bounded h.marked.marks_long) h.joins

  pub fine_droppable : ByteGroups s → drop_refusal s marks ≡ Fine → Droppable s marks
  fine_droppable numbered h =
      let marked : Marked s marks = fine_marked h in
      let bounded = picks_bounded marked.marks_long in
      let after : later ≡ Fine = sym (marked_later marked) ∙ h in
      record {
        marked = marked;
        forest = fine_forest s F bounded (fine_left _ _ after);
        joins = group_fine s 14 F bounded numbered (fine_right _ _ after);
      }

  -- ---- the marks that are left

  needed_picked : (e : ℕ) → needed (problem_of s) F e ≡ true → F e ≡ true
  unfolding needed
  needed_picked e h = and_left (F e) (not (joined (problem_of s) (without F e))) h

  module _ (ok : Droppable s marks) where
    bounded : Bounded (problem_of s) F
    bounded = picks_bounded ok.marked.marks_long

    abbrev p_needed : ℕ → Bool
    p_needed = needed (problem_of s) F

    mark_at : (e : ℕ) → e < edge_count s → get_or (needed_marks s marks) e 0 ≡ mark_of (F e) (p_needed e)
    unfolding needed_marks
    mark_at e l = get_d_tabulate (edge_count s) (λ e. mark_of (F e) (p_needed e)) e 0 l

    mark_past : (e : ℕ) → edge_count s ≤ e → get_or (needed_marks s marks) e 0 ≡ 0
    unfolding needed_marks
    mark_past e l =
        get_or-eq_default (tabulate (edge_count s) (λ e. mark_of (F e) (p_needed e))) 0
        (subst (λ m. m ≤ e) (sym (length_tabulate (edge_count s) (λ e. mark_of (F e) (p_needed e)))) l)

    -- Kept are the needed ones.
    pub kept_are : (e : ℕ) → kept_by (needed_marks s marks) e ≡ p_needed e
    unfolding kept_by problem_of
    kept_are e =
        ⊎_elim
        (λ l. ap (λ x. eqb x 2) (mark_at e l) ∙ mark_kept (F e) (p_needed e) (needed_picked e))
        (λ l.
        ap (λ x. eqb x 2) (mark_past e l)
        ∙ sym (not_true_false (p_needed e) (λ n. let c : e < edge_count s = bounded e (needed_picked e n) in omega arith)))
        (lt_or_ge e (edge_count s))

    pub kept_cost_law : cost (problem_of s) (kept_by (needed_marks s marks)) ≡ cost (problem_of s) p_needed
    unfolding cost
    kept_cost_law = sum_cong (problem_of s).edges _ _ (λ e l. ap (λ t. counted t ((problem_of s).weight e)) (kept_are e))

    raised_cases : (e x : ℕ) → get_or marks e 0 ≡ x → x ≤ 1 → (y : Bool) → (mark_of (F e) y ≡ x) ⊎ ((x ≡ 1) × (mark_of (F e) y ≡ 2))
    unfolding mark_of picked_in
    raised_cases e zero h low y = inl (rw h)
    raised_cases e (suc zero) h low true = inr (refl, rw h)
    raised_cases e (suc zero) h low false = inl (rw h)
    raised_cases e (suc (suc x)) h low y = absurd (omega arith)

    pub raised_only : (e : ℕ) → (get_or (needed_marks s marks) e 0 ≡ get_or marks e 0) ⊎ ((get_or marks e 0 ≡ 1) × (get_or (needed_marks s marks) e 0 ≡ 2))
    raised_only e =
        ⊎_elim
        (λ l.
        ⊎_elim
        (λ same. inl (mark_at e l ∙ same))
        (λ r. inr (r.0, mark_at e l ∙ r.1))
        (raised_cases e (get_or marks e 0) refl (ok.marked.marks_known e l) (p_needed e)))
        (λ l. inl (mark_past e l ∙ sym (get_or-eq_default marks 0 (subst (λ m. m ≤ e) (sym ok.marked.marks_long) l))))
        (lt_or_ge e (edge_count s))

    -- The others join without a track that is not needed, so all of those can go at once (source 001, Lemma 22.6).
    needed_join : Joins (problem_of s) p_needed
    unfolding needed
    needed_join u v bu bv r =
        needed_joins a b F (λ e. not (joined (problem_of s) (without F e))) (problem_of s).edges
        (λ u v. (u < (problem_of s).vertices) × (v < (problem_of s).vertices) × ((problem_of s).required u v ≡ true)) bounded ok.forest
        (λ u v k. ok.joins u v k.0 k.1 k.2)
        (λ e f n u v k. joined_elim (problem_of s) (without F e) (not-false (joined (problem_of s) (without F e)) n) u v k.0 k.1 k.2)
        u v (bu, bv, r)

    needed_spares_none : (e : ℕ) → p_needed e ≡ true → Joins (problem_of s) (without p_needed e) → ⊥
    needed_spares_none e k joins =
        ((needed_iff (problem_of s) F bounded e).0 k).1 (λ u v bu bv r. linked_mono (without_mono e needed_picked) (joins u v bu bv r))

    -- A track beside some that join every list already is never kept: adding it by hand changes no cost.
    pub added_spared : (G : ℕ → Bool) → ((e : ℕ) → G e ≡ true → F e ≡ true) → Joins (problem_of s) G → (e : ℕ) → G e ≡ false → kept_by (needed_marks s marks) e ≡ false
    added_spared G part joins e out =
        kept_are e
        ∙ not_true_false (p_needed e)
        (λ k.
        ((needed_iff (problem_of s) F bounded e).0 k).1
        (λ u v bu bv r.
        linked_mono (λ f g. without_intro F e f (part f g) (λ same. true_not_false (G e) (subst (λ x. G x ≡ true) same g) out)) (joins u v bu bv r)))

    pub dropped_marks_law : ByteGroups s → DroppedMarks s marks (needed_marks s marks) (drop_counts_of s marks)
    unfolding drop_counts_of
    dropped_marks_law numbered =
        record {
          droppable = ok;
          only_raised = raised_only;
          kept_needed = λ e. subst (λ t. (t ≡ true) ↔ ((F e ≡ true) × (Joins (problem_of s) (without F e) → ⊥))) (sym (kept_are e)) (needed_iff (problem_of s) F bounded e);
          joins = λ u v bu bv r. linked_mono (λ e k. kept_are e ∙ k) (needed_join u v bu bv r);
          none_spare = λ e k joins.
              needed_spares_none e (sym (kept_are e) ∙ k)
              (λ u v bu bv r. linked_mono (without_mono e (λ f n. sym (kept_are f) ∙ n)) (joins u v bu bv r));
          terminals_are = refl;
          cost_is = sym kept_cost_law;
          accuracy = λ records k h.
              subst (Accurate s (terminals (problem_of s))) kept_cost_law
              (passing_accurate s (needed_marks s marks) records ((checking_passing s numbered (needed_marks s marks) records).0 k h));
          bound_halved = checking_bound s numbered (needed_marks s marks);
        }

-- ---- the call

dropped_verdict : (s : Survey) → ByteGroups s → (marks : List ℕ) (c : DropCounts) → dropping s marks ≡ answer c → DroppedMarks s marks (marks_dropped s marks) c
unfolding dropping marks_dropped written
dropped_verdict s numbered marks c h =
    let a = answer_fine (drop_refusal s marks) (drop_counts_of s marks) c h in
    subst (λ v. DroppedMarks s marks (written v (needed_marks s marks) marks) c) (sym a.0)
    (subst (DroppedMarks s marks (needed_marks s marks)) a.1 (dropped_marks_law s marks (fine_droppable s marks numbered a.0) numbered))

-- An early number.
never_drops : (s : Survey) (marks : List ℕ) (k place : ℕ) → (k ≡ 18 → ⊥) → 6 < k → k < 9 → dropping s marks ≡ refusal k place → ⊥
unfolding dropping
never_drops s marks k place no18 above low h =
    by (late_marked s marks k place no18 above (λ q. omega arith) (λ q. omega arith) (refusal_found (drop_refusal s marks) (drop_counts_of s marks) h))
  where
    by : Marked s marks × ((loop_refusal s (picked_in marks) before group_refusal s 14 (picked_in marks)) ≡ Refused k place) → ⊥
    by x =
        ⊎_elim
        (λ l. let n = (loop_lowest s marks x.0 k place l).0 in omega arith)
        (λ r. let n = (group_refused s 14 (picked_in marks) (picks_bounded s marks x.0.marks_long) k place r.1).0 in omega arith)
        (before_cases _ _ x.1)

pub dropping_promises : (s : Survey) → ByteGroups s → (marks : List ℕ) (o : Outcome DropCounts) → o ≡ dropping s marks
    → DropPromises s marks (marks_dropped s marks) o
unfolding dropping outcome
dropping_promises s numbered marks o h =
    record {
      dropped = λ c k. dropped_verdict s numbered marks c (sym h ∙ k);
      drops = λ ok. answered (droppable_fine s marks ok);
      loop = λ e k. twenty_one s marks e (verdict k);
      loop_refused = λ e l. answered (marked_later s marks l.marked ∙ before_refused (lowest_loop s marks e l) _);
      loop_found = λ marked loops.
          subst (λ (q : Outcome DropCounts). LoopFound q) (sym h) (no_forest_found s marks marked loops (loop_refusal s (picked_in marks)) refl);
      forest_passes = λ forest e k. let l : LowestLoop s marks e = twenty_one s marks e (verdict k) in loop_no_forest s marks e l.picked l.closes forest;
      apart = λ g k. fourteen s marks g (verdict k);
      apart_refused = λ g l. answered (apart_fourteen s marks g l);
      no_seven = λ place k. never_drops s marks 7 place (λ q. omega arith) (omega arith) (omega arith) (sym h ∙ k);
      no_eight = λ place k. never_drops s marks 8 place (λ q. omega arith) (omega arith) (omega arith) (sym h ∙ k);
    }
  where
    verdict : {number place : ℕ} → o ≡ refusal number place → drop_refusal s marks ≡ Refused number place
    verdict k = refusal_found (drop_refusal s marks) (drop_counts_of s marks) (sym h ∙ k)

    answered : {v : Verdict} → drop_refusal s marks ≡ v → o ≡ outcome v (drop_counts_of s marks)
    answered k = h ∙ ap (λ v. outcome v (drop_counts_of s marks)) k
