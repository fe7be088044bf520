-- From the growth of the poured lists to the marks of the survey's plan, and what is answered for a track that was dropped or not picked. `explain` cites it.
use Prim.Native.Nat.{ℕ, ◌-◌, ◌<◌, ◌≤◌}
use Rattle.std.proofs.Common.{arith, ◌∙◌, get_or-take, length-take-le, eq-eqb, lt-ltb}
use Rattle.std.proofs.Math.Nat.{sub-zero}
use Rattle.std.specs.Prelude.{◌≡◌, Bool, List, ◌++◌, take, drop, replicate, eqb, ltb}
use Rattle.std.proofs.Math.Path.{refl, ap, sym, subst, fun_ext}
use Rattle.std.proofs.Math.Logic.{⊎_elim}
use Rattle.std.proofs.Math.Bool.{true, false, not}
use Rattle.std.proofs.Math.ListN.{length, get_or, length-replicate, get_or-eq_default}
use Rattle.base_finite.specs.Below.{counted}
use Rattle.base_finite.specs.Laws.Below.{lt_or_ge, length_tabulate, get_d_tabulate, counted_true}
use Rattle.base_finite.specs.Laws.Test.{not_true_false, and_left}
use Rattle.base_buffer.proofs.Laws.Store.{length_remade, remade_passed}
use Rattle.base_limits.specs.Limits.{max_vertices, max_edges}
use Rattle.base_limits.specs.Verdict.{answer, written}
use Rattle.base_limits.specs.declared.Verdict.TheVariants.{Fine}
use Rattle.base_limits.specs.Laws.Verdict.{before_fine, refuse_false}
use Rattle.theory_graph.specs.Path.{Forest}
use Rattle.theory_graph.specs.Path.{without}
use Rattle.theory_steiner.specs.Problem.{Sound, Bounded, Joins, joined}
use Rattle.theory_steiner.specs.Growth.{State, state_at, grown}
use Rattle.theory_steiner.specs.Pruning.{needed, picked, kept, mark_of, mark}
use Rattle.theory_steiner.proofs.Laws.Rounds.{rounds_lt, grown_reached}
use Rattle.theory_steiner.proofs.Laws.Finish.{picked_joins, picked_acyclic}
use Rattle.survey_core.specs.Survey.{Survey, survey_from, lists_of, vertex_count, edge_count, problem_of}
use Rattle.survey_core.specs.Sound.{SurveySound}
use Rattle.survey_core.specs.Refusal.{survey_refusal}
use Rattle.survey_core.proofs.Laws.Refusal.{survey_fine, survey_sound}
use Rattle.survey_core.proofs.Laws.Group.{joins_fine}
use Rattle.survey_components.specs.Labels.{picked_in}
use Rattle.survey_components.specs.Forest.{forest_refusal}
use Rattle.survey_components.specs.Laws.Forest.{forest_fine}
use Rattle.survey_lists.specs.Pouring.{poured_survey}
use Rattle.survey_lists.proofs.Laws.Pouring.{length_poured}
use Rattle.survey_lists.proofs.Laws.Plan.{poured_sound, poured_states, poured_kept, poured_joins}
use Rattle.plan_rounds.specs.Grown.{Growth, GrownAfter}
use Rattle.plan_rounds.specs.Represents.{pick_at}
use Rattle.plan_drop.specs.Judge.{pruned_marks, marks_pruned}
use Rattle.why_rule.specs.Reason.{reason_of, round_of, spared, passed}
use Rattle.why_rule.specs.Why.{why_counts, route_in}
use Rattle.why_rule.specs.Answer.{why_outcome}
use Rattle.why_rule.specs.declared.Why.TheVariants.{Dropped, Passed}
use Rattle.why_rule.proofs.Laws.Reason.{picked_bounded}
use Rattle.why_core.specs.Replay.{round_in}
use Rattle.why_core.specs.Asked.{Asked, KeptAsked}
use Rattle.why_core.specs.Laws.Round.{round_is, round_same}

one_or_none : (t : Bool) → not (eqb (counted t 1) 0) ≡ t
unfolding counted
one_or_none true = refl
one_or_none false = refl

-- ---- the survey whose lists are poured

module _ (s : Survey) {lists : List ℕ} {route_length e : ℕ} (asked : Asked s lists route_length e) where
  abbrev into : Survey
  into = survey_from lists s.firsts s.seconds s.weights

  sound : SurveySound s
  sound = asked.ok.joinable.askable.survey

  into_is : survey_from lists s.firsts s.seconds s.weights ≡ poured_survey s
  into_is = ap (λ (groups : List ℕ). survey_from groups s.firsts s.seconds s.weights) asked.poured

  pub into_sound : SurveySound (survey_from lists s.firsts s.seconds s.weights)
  into_sound = subst SurveySound (sym into_is) (poured_sound s sound)

  pub lists_long : length lists ≡ length s.groups
  lists_long = ap length asked.poured ∙ length_poured (lists_of s)

  states : (k : ℕ) → state_at (problem_of into) k ≡ state_at (problem_of s) k
  states k = ap (λ (q : Survey). state_at (problem_of q) k) into_is ∙ sym (poured_states s sound.pairs k)

  pub kept_poured : kept (problem_of (survey_from lists s.firsts s.seconds s.weights)) ≡ kept (problem_of s)
  kept_poured = ap (λ (q : Survey). kept (problem_of q)) into_is ∙ sym (poured_kept s sound.pairs)

  grown_poured : grown (problem_of into) ≡ grown (problem_of s)
  unfolding grown problem_of vertex_count
  grown_poured = states (length lists) ∙ ap (state_at (problem_of s)) lists_long

  picked_poured : picked (problem_of into) ≡ picked (problem_of s)
  unfolding picked
  picked_poured = ap (λ (q : State). q.picked) grown_poured

  -- Marks of a forest that joins every list.
  pub forest_accepted : (F : ℕ → Bool) (marks : List ℕ) → length marks ≡ length s.firsts → picked_in marks ≡ F → Bounded (problem_of s) F
      → Forest (problem_of s).first (problem_of s).second F → Joins (problem_of s) F
      → forest_refusal (survey_from lists s.firsts s.seconds s.weights) marks ≡ Fine
  unfolding forest_refusal edge_count problem_of
  forest_accepted F marks long is bounded forest joins =
      before_fine (survey_fine into into_sound) _
      ∙ before_fine (refuse_false (ap not (eq-eqb (length marks) (length s.firsts) long)) 9 0) _
      ∙ before_fine (forest_fine into (picked_in marks) (subst (Forest (problem_of s).first (problem_of s).second) (sym is) forest)) _
      ∙ joins_fine into 14 (picked_in marks) (subst (Bounded (problem_of s)) (sym is) bounded)
      (subst (Joins (problem_of into)) (sym is)
      (subst (λ (q : Survey). Joins (problem_of q) F) (sym into_is) ((poured_joins s sound.pairs F bounded).0 joins)))

  -- ---- after growing

  module _ {g : Growth} (grew : GrownAfter (problem_of (survey_from lists s.firsts s.seconds s.weights))
      (written (survey_refusal (survey_from lists s.firsts s.seconds s.weights)) (length lists) 0) g) where
    to_the_end : GrownAfter (problem_of into) (length lists) g
    unfolding written
    to_the_end = subst (λ v. GrownAfter (problem_of into) (written v (length lists) 0) g) (survey_fine into into_sound) grew

    pub picked_long : length g.picked ≡ max_edges
    picked_long = ap length to_the_end.picked_are ∙ length_tabulate max_edges _

    pub order_long : length g.order ≡ max_vertices
    order_long = ap length to_the_end.order_is ∙ length_tabulate max_vertices _

    -- The picks that are lent.
    abbrev part : List ℕ
    part = take (length s.firsts - 0) g.picked

    part_long : length part ≡ length s.firsts
    part_long = let few = sound.edges_few in rw (sub-zero (length s.firsts)) (length-take-le (length s.firsts) g.picked (omega (arith, picked_long)))

    part_at : (f : ℕ) → f < length s.firsts → get_or part f 0 ≡ counted (picked (problem_of s) f) 1
    unfolding grown picked problem_of vertex_count
    part_at f b =
        let few = sound.edges_few in
        rw (sub-zero (length s.firsts))
        (get_or-take (length s.firsts) g.picked f 0 b
        ∙ ap (λ l. get_or l f 0) to_the_end.picked_are
        ∙ get_d_tabulate max_edges (λ e. counted ((state_at (problem_of into) (length lists)).picked e) 1) f 0 (omega arith)
        ∙ ap (λ (q : State). counted (q.picked f) 1) grown_poured)

    part_picks : picked_in part ≡ picked (problem_of s)
    unfolding picked_in problem_of edge_count
    part_picks =
        fun_ext
        (λ f.
        ⊎_elim
        (λ b. ap (λ x. not (eqb x 0)) (part_at f b) ∙ one_or_none (picked (problem_of s) f))
        (λ b.
        ap (λ x. not (eqb x 0)) (get_or-eq_default part 0 (subst (λ m. m ≤ f) (sym part_long) b))
        ∙ sym (not_true_false (picked (problem_of s) f) (λ k. let l = picked_bounded s sound f k in omega arith)))
        (lt_or_ge f (length s.firsts)))

    ok : Sound (problem_of s)
    ok = survey_sound s sound

    some : 0 < (problem_of s).vertices
    unfolding problem_of vertex_count
    some = sound.some

    part_accepted : forest_refusal into part ≡ Fine
    part_accepted =
        forest_accepted (picked (problem_of s)) part part_long part_picks (picked_bounded s sound)
        (picked_acyclic (problem_of s) ok some asked.ok.joinable.joins) (picked_joins (problem_of s) ok some asked.ok.joinable.joins)

    -- ---- after dropping

    module _ {marks : List ℕ} (pruned : marks ≡ marks_pruned (survey_from lists s.firsts s.seconds s.weights) (take (length s.firsts - 0) g.picked) (replicate max_edges 0)) where
      marks_made : marks ≡ pruned_marks (problem_of into) (picked (problem_of s)) (length s.firsts) (replicate max_edges 0)
      unfolding marks_pruned written edge_count
      marks_made =
          pruned
          ∙ ap (λ v. written v (pruned_marks (problem_of into) (picked_in part) (length s.firsts) (replicate max_edges 0)) (replicate max_edges 0)) part_accepted
          ∙ ap (λ F. pruned_marks (problem_of into) F (length s.firsts) (replicate max_edges 0)) part_picks

      pub marks_long : length marks ≡ max_edges
      unfolding pruned_marks
      marks_long = ap length marks_made ∙ length_remade _ (length s.firsts) (replicate max_edges 0) ∙ length-replicate {A = ℕ} max_edges 0

      kept_is : (f : ℕ) → needed (problem_of into) (picked (problem_of s)) f ≡ kept (problem_of s) f
      unfolding kept
      kept_is f = ap (λ F. needed (problem_of into) F f) (sym picked_poured) ∙ ap (λ (F : ℕ → Bool). F f) kept_poured

      pub mark_at : (f : ℕ) → f < length s.firsts → get_or marks f 0 ≡ mark (problem_of s) f
      unfolding pruned_marks mark
      mark_at f b =
          let few = sound.edges_few in
          ap (λ l. get_or l f 0) marks_made
          ∙ remade_passed (λ e x. mark_of (picked (problem_of s) e) (needed (problem_of into) (picked (problem_of s)) e)) (length s.firsts) (replicate max_edges 0) f b
          (omega (arith, length-replicate {A = ℕ} max_edges 0))
          ∙ ap (mark_of (picked (problem_of s) f)) (kept_is f)

      known : e < length s.firsts
      unfolding edge_count
      known = asked.ok.known

      kept_picked : kept (problem_of s) e ≡ true → picked (problem_of s) e ≡ true
      unfolding kept needed
      kept_picked h = and_left (picked (problem_of s) e) (not (joined (problem_of s) (without (picked (problem_of s)) e))) h

      -- What a mark says of the track.
      zero_mark : (p k : Bool) → (k ≡ true → p ≡ true) → mark_of p k ≡ 0 → (p ≡ false) × (k ≡ false)
      unfolding mark_of
      zero_mark false false h z = (refl, refl)
      zero_mark false true h z = (refl, sym (h refl))
      zero_mark true false h z = absurd (omega arith)
      zero_mark true true h z = absurd (omega arith)

      one_mark : (p k : Bool) → mark_of p k ≡ 1 → (p ≡ true) × (k ≡ false)
      unfolding mark_of
      one_mark false k z = absurd (omega arith)
      one_mark true false z = (refl, refl)
      one_mark true true z = absurd (omega arith)

      two_mark : (p k : Bool) → 2 ≤ mark_of p k → (mark_of p k ≡ 2) × (k ≡ true)
      unfolding mark_of
      two_mark false k z = absurd (omega arith)
      two_mark true false z = absurd (omega arith)
      two_mark true true z = (refl, refl)

      not_picked : get_or marks e 0 ≡ 0 → reason_of s e ≡ passed (round_of (problem_of s) e)
      unfolding reason_of mark
      not_picked z =
          let m = zero_mark (picked (problem_of s) e) (kept (problem_of s) e) kept_picked (sym (mark_at e known) ∙ z) in
          rw (m.1, m.0)

      not_kept : get_or marks e 0 ≡ 1 → reason_of s e ≡ spared
      unfolding reason_of mark
      not_kept z =
          let m = one_mark (picked (problem_of s) e) (kept (problem_of s) e) (sym (mark_at e known) ∙ z) in
          rw (m.1, m.0)

      -- The track is kept.
      pub kept_asked : get_or marks e 0 ≡ 2 → KeptAsked s lists marks route_length e
      unfolding mark
      kept_asked z =
          record {
            asked = asked;
            marks_are = mark_at;
            is_kept = (two_mark (picked (problem_of s) e) (kept (problem_of s) e) (let k = sym (mark_at e known) ∙ z in omega arith)).1;
          }

      -- There are no other marks.
      pub no_other_mark : (get_or marks e 0 ≡ 0 → ⊥) → (get_or marks e 0 ≡ 1 → ⊥) → (get_or marks e 0 ≡ 2 → ⊥) → ⊥
      unfolding mark
      no_other_mark x y z =
          let k = mark_at e known in
          z (k ∙ (two_mark (picked (problem_of s) e) (kept (problem_of s) e) (omega arith)).0)

      -- ---- the answers

      pub dropped_answer : (route : List ℕ) → get_or marks e 0 ≡ 1
          → (why_outcome Dropped ≡ answer (why_counts (reason_of s e))) × (route ≡ route_in (reason_of s e) ++ drop (length (route_in (reason_of s e))) route)
      unfolding why_outcome why_counts route_in
      dropped_answer route z = (rw (not_kept z), rw (not_kept z))

      rounds_are : g.rounds ≡ (grown (problem_of into)).rounds
      unfolding grown problem_of vertex_count
      rounds_are = to_the_end.rounds_are

      pub rounds_few : g.rounds < length lists
      unfolding problem_of vertex_count
      rounds_few = subst (λ r. r < length lists) (sym rounds_are) (rounds_lt (problem_of into) (survey_sound into into_sound) into_sound.some (grown_reached (problem_of into)))

      -- The picks in their order.
      abbrev picks : List ℕ
      picks = take (g.rounds - 0) g.order

      picks_long : length picks ≡ g.rounds
      picks_long =
          let few = into_sound.few in
          rw (sub-zero g.rounds) (length-take-le g.rounds g.order (omega (arith, order_long, rounds_few)))

      picks_at : (i : ℕ) → i < length picks → get_or picks i 0 ≡ pick_at (problem_of into) i
      picks_at i b =
          let few = into_sound.few in
          let l : i < g.rounds = subst (λ n. i < n) picks_long b in
          let n : i < length lists = let r = rounds_few in omega arith in
          ap (λ k. get_or (take k g.order) i 0) (sub-zero g.rounds)
          ∙ get_or-take g.rounds g.order i 0 l
          ∙ ap (λ t. get_or t i 0) to_the_end.order_is
          ∙ get_d_tabulate max_vertices (λ i. counted (ltb i (length lists)) (pick_at (problem_of into) i)) i 0 (omega arith)
          ∙ counted_true (lt-ltb i (length lists) n) (pick_at (problem_of into) i)

      round_found : round_in s.firsts s.seconds picks e ≡ round_of (problem_of s) e
      unfolding edge_count problem_of
      round_found =
          round_is into into_sound picks (picks_long ∙ rounds_are) picks_at e known
          ∙ round_same (problem_of into) (problem_of s) refl refl grown_poured states e

      pub passed_answer : (route : List ℕ) {r w : ℕ} → get_or marks e 0 ≡ 0
          → r ≡ written (survey_refusal (survey_from lists s.firsts s.seconds s.weights)) (round_in s.firsts s.seconds (take (g.rounds - 0) g.order) e) 0
          → w ≡ r
          → (why_outcome (Passed w) ≡ answer (why_counts (reason_of s e))) × (route ≡ route_in (reason_of s e) ++ drop (length (route_in (reason_of s e))) route)
      unfolding why_outcome why_counts route_in written
      passed_answer route {r} {w} z found is =
          let round : w ≡ round_of (problem_of s) e =
          is ∙ found ∙ ap (λ v. written v (round_in s.firsts s.seconds picks e) 0) (survey_fine into into_sound) ∙ round_found in
          (rw (not_picked z, round), rw (not_picked z))
