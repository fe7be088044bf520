-- A kept track: the marks that are lent are the other picked tracks and the kept ones, the pair that is found is the definition's, and the route that is found is the kept one. `explain` cites it.
use Rattle.std.specs.Prelude.{ℕ, ◌-◌, ◌<◌, ◌≤◌, ◌≡◌, refl, Bool, true, false, ◌&&◌, not, List, ◌++◌, length, take, drop, replicate, leb}
use Rattle.std.proofs.Common.{arith, sym, ◌∙◌}
use Rattle.std.proofs.Math.Path.{ap, subst}
use Rattle.std.proofs.Math.ListN.{get_or}
use borrow.Author.Tests.{ne_eqb, le-ltb}
use Rattle.base_finite.specs.Below.{counted}
use Rattle.base_finite.specs.Laws.Below.{get_d_tabulate}
use Rattle.base_finite.specs.Laws.Test.{not_true_false, and_left}
use Rattle.base_buffer.specs.Store.{remade}
use Rattle.base_limits.specs.Limits.{max_vertices, max_edges}
use Rattle.base_limits.specs.Verdict.{Outcome, answer, written}
use Rattle.base_limits.specs.declared.Verdict.TheVariants.{Fine}
use Rattle.base_limits.specs.Laws.Verdict.{before_fine, refuse_false}
use Rattle.theory_graph.specs.Path.{without}
use Rattle.theory_steiner.specs.Problem.{Problem, Joins, all_usable, joined}
use Rattle.theory_steiner.specs.Pruning.{needed, picked, kept, mark_of, mark}
use Rattle.theory_steiner.proofs.Laws.Finish.{kept_joins}
use Rattle.theory_route.specs.First.{first_below}
use Rattle.theory_route.proofs.Laws.First.{first_cong}
use Rattle.theory_route.specs.Route.{route_of}
use Rattle.theory_route.proofs.Laws.Route.{route_is}
use Rattle.survey_core.specs.Survey.{Survey, survey_from, lists_of, vertex_count, edge_count, member, problem_of, group_joined, components_of}
use Rattle.survey_core.specs.Lists.{in_list}
use Rattle.survey_core.specs.Sound.{SurveySound}
use Rattle.survey_core.specs.Refusal.{group_refusal}
use Rattle.survey_core.proofs.Laws.Refusal.{survey_fine, survey_sound, fine_plain}
use Rattle.survey_components.specs.Laws.Buffer.{components_stored}
use Rattle.survey_components.specs.Labels.{chosen, picked_in, labels_of}
use Rattle.survey_components.specs.declared.Chosen.TheVariants.{Kept}
use Rattle.survey_components.specs.Forest.{forest_refusal}
use Rattle.why_rule.specs.Reason.{others, place_of, parted_list, low_member, high_member, kept_reason, reason_of}
use Rattle.why_rule.specs.Why.{WhyCounts, why_counts, route_in}
use Rattle.why_rule.proofs.Laws.Pair.{low_is, high_is}
use Rattle.why_rule.proofs.Laws.Reason.{picked_bounded, list_apart, kept_bounded, forest, ends_below, low_vertex, needs_holds}
use Rattle.why_core.specs.Walk.{route_refusal}
use Rattle.why_core.specs.declared.parted.Pair.{Pair}
use Rattle.why_core.specs.Parted.{marked_but, label_in, PairOf}
use Rattle.why_core.specs.Laws.PartedFound.{twos_chosen, part_long, part_picked}
use Rattle.why_core.specs.Kept.{kept_counts, marks_but, entries_for, route_left, KeptAnswer}
use Rattle.why_core.specs.Laws.Held.{held_few}
use Rattle.why_core.specs.Asked.{KeptAsked}
use Rattle.why_core.specs.Laws.Grown.{lists_long, forest_accepted}

-- ---- the marks of a plan

one_least : (p k : Bool) → leb 1 (mark_of p k) ≡ p
unfolding mark_of
one_least false k = refl
one_least true false = refl
one_least true true = refl

two_least : (p k : Bool) → (k ≡ true → p ≡ true) → leb 2 (mark_of p k) ≡ k
unfolding mark_of
two_least false false h = refl
two_least false true h = h refl
two_least true false h = refl
two_least true true h = refl

and_true : (t : Bool) → (t && true) ≡ t
and_true true = refl
and_true false = refl

module _ (s : Survey) {lists marks : List ℕ} {route_length e : ℕ} (h : KeptAsked s lists marks route_length e) where
  abbrev P : Problem
  P = problem_of s

  sound : SurveySound s
  sound = h.asked.ok.joinable.askable.survey

  abbrev m : ℕ
  m = length s.firsts

  joinable : Joins (problem_of s) (all_usable (problem_of s))
  joinable = h.asked.ok.joinable.joins

  picked_past : (f : ℕ) → length s.firsts ≤ f → picked (problem_of s) f ≡ false
  unfolding problem_of edge_count
  picked_past f b = not_true_false (picked (problem_of s) f) (λ k. let l = picked_bounded s sound f k in omega arith)

  needed_picked : (f : ℕ) → kept (problem_of s) f ≡ true → picked (problem_of s) f ≡ true
  unfolding kept needed
  needed_picked f k = and_left (picked (problem_of s) f) (not (joined (problem_of s) (without (picked (problem_of s)) f))) k

  -- ---- the other picked tracks

  module _ {rest : List ℕ} (rest_are : rest ≡ remade (λ f x. counted (marked_but marks 1 e f) 2) (length s.firsts) (replicate max_edges 0)) where
    rest_is : chosen Kept rest ≡ others s e
    unfolding marked_but without mark
    rest_is =
        twos_chosen (marked_but marks 1 e) (length s.firsts) sound.edges_few rest_are (others s e)
        (λ f b. rw (h.marks_are f b, one_least (picked (problem_of s) f) (kept (problem_of s) f)))
        (λ f b. rw (picked_past f b))

    -- The pair that they leave apart.
    module _ {p : Pair} (found : PairOf s rest p) where
      abbrev label : ℕ → ℕ
      label = components_of s (others s e)

      pub group_named : p.group ≡ parted_list s e
      unfolding parted_list
      group_named = found.group_is ∙ ap place_of (before_fine (survey_fine s sound) _ ∙ ap (group_refusal s 0) rest_is)

      apart : group_joined s (components_of s (others s e)) (parted_list s e) ≡ false
      apart = list_apart s sound h.asked.numbered joinable e h.is_kept

      pub smaller_named : p.smaller ≡ low_member s (components_of s (others s e)) (parted_list s e)
      unfolding member vertex_count
      smaller_named =
          found.smaller_is
          ∙ ap (λ g. first_below (length s.groups) (in_list (lists_of s) g)) group_named
          ∙ low_is s (components_of s (others s e)) (parted_list s e) apart

      label_at : (v : ℕ) → v < length s.groups → label_in s rest v ≡ components_of s (others s e) v
      unfolding label_in labels_of written components_of problem_of vertex_count edge_count
      label_at v b =
          let few = sound.few in
          let plain = survey_from s.groups s.firsts s.seconds s.weights in
          ap (λ w. get_or (written w (labels_of plain (chosen Kept rest)) (replicate max_vertices 0)) v 0)
          (fine_plain s.groups s.firsts s.seconds s.weights s.owners s.others (survey_fine s sound))
          ∙ get_d_tabulate max_vertices _ v 0 (omega arith)
          ∙ components_stored max_vertices (length s.groups) (λ f. get_or s.firsts f 0) (λ f. get_or s.seconds f 0) (chosen Kept rest) (length s.firsts) v
          ∙ ap (λ F. components_of s F v) rest_is

      low_below : low_member s (components_of s (others s e)) (parted_list s e) < length s.groups
      unfolding problem_of vertex_count
      low_below = low_vertex s sound h.asked.numbered joinable e h.is_kept

      pub larger_named : p.larger ≡ high_member s (components_of s (others s e)) (parted_list s e)
      unfolding member vertex_count
      larger_named =
          found.larger_is
          ∙ first_cong (length s.groups) _ _
          (λ v b. rw (group_named, smaller_named, label_at (low_member s (components_of s (others s e)) (parted_list s e)) low_below, label_at v b))
          ∙ high_is s (components_of s (others s e)) (parted_list s e) apart

      -- ---- the route over the kept tracks

      abbrev low : ℕ
      low = low_member s (components_of s (others s e)) (parted_list s e)

      abbrev high : ℕ
      high = high_member s (components_of s (others s e)) (parted_list s e)

      abbrev entries : List ℕ
      entries = route_of (problem_of s) (kept (problem_of s)) low high

      module _ {all : List ℕ} (all_are : all ≡ remade (λ f x. counted (marked_but marks 2 (length s.firsts) f) 2) (length s.firsts) (replicate max_edges 0)) where
        kept_at : (f : ℕ) → f < length s.firsts → marked_but marks 2 (length s.firsts) f ≡ kept (problem_of s) f
        unfolding marked_but mark
        kept_at f b =
            rw (
              h.marks_are f b,
              two_least (picked (problem_of s) f) (kept (problem_of s) f) (needed_picked f),
              ne_eqb f (length s.firsts) (λ same. omega arith),
            )
            (and_true (kept (problem_of s) f))

        kept_past : (f : ℕ) → length s.firsts ≤ f → kept (problem_of s) f ≡ false
        unfolding problem_of edge_count
        kept_past f b =
            not_true_false (kept (problem_of s) f) (λ k. let l = kept_bounded s sound h.asked.numbered joinable e h.is_kept f k in omega arith)

        abbrev part : List ℕ
        part = take (length s.firsts - 0) all

        picks_kept : picked_in part ≡ kept (problem_of s)
        picks_kept =
            part_picked (marked_but marks 2 (length s.firsts)) (length s.firsts) sound.edges_few all_are (kept (problem_of s)) kept_at kept_past

        long : length part ≡ length s.firsts
        long = part_long (marked_but marks 2 (length s.firsts)) (length s.firsts) sound.edges_few all_are (kept (problem_of s)) kept_at kept_past

        some : 0 < (problem_of s).vertices
        unfolding problem_of vertex_count
        some = sound.some

        accepted : forest_refusal (survey_from lists s.firsts s.seconds s.weights) part ≡ Fine
        accepted =
            forest_accepted s h.asked (kept (problem_of s)) part long picks_kept
            (kept_bounded s sound h.asked.numbered joinable e h.is_kept)
            (forest s sound h.asked.numbered joinable e h.is_kept)
            (kept_joins (problem_of s) (survey_sound s sound) some joinable)

        route_fine : route_refusal (survey_from lists s.firsts s.seconds s.weights) part route_length ≡ Fine
        unfolding route_refusal vertex_count
        route_fine =
            before_fine accepted _
            ∙ refuse_false (le-ltb route_length (length lists - 1) (let fits = h.asked.ok.joinable.askable.route_fits in let n = lists_long s h.asked in omega arith)) 7 0

        -- Whatever the lists require, a path is a path.
        route_same : route_of (problem_of (survey_from lists s.firsts s.seconds s.weights)) (kept (problem_of s)) low high ≡ entries
        unfolding problem_of vertex_count edge_count
        route_same =
            route_is (problem_of (survey_from lists s.firsts s.seconds s.weights)) (kept (problem_of s))
            (kept_bounded s sound h.asked.numbered joinable e h.is_kept)
            (forest s sound h.asked.numbered joinable e h.is_kept)
            (λ f u v k l. subst (λ n. v < n) (sym (lists_long s h.asked)) (ends_below s sound h.asked.numbered joinable e h.is_kept f u v k l))
            (subst (λ n. low < n) (sym (lists_long s h.asked)) low_below)
            (needs_holds s sound h.asked.numbered joinable e h.is_kept).path.route

        reason_is : reason_of s e ≡ kept_reason s e
        unfolding reason_of
        reason_is = rw h.is_kept

        found_answered : (route : List ℕ) {r : ℕ} {after : List ℕ} → length route ≡ route_length
            → r ≡ written (route_refusal (survey_from lists s.firsts s.seconds s.weights) (take (length s.firsts - 0) all) (length route))
            (length (route_of (problem_of (survey_from lists s.firsts s.seconds s.weights)) (picked_in (take (length s.firsts - 0) all)) p.smaller p.larger)) 0
            → after ≡ written (route_refusal (survey_from lists s.firsts s.seconds s.weights) (take (length s.firsts - 0) all) (length route))
            (route_of (problem_of (survey_from lists s.firsts s.seconds s.weights)) (picked_in (take (length s.firsts - 0) all)) p.smaller p.larger
            ++ drop (length (route_of (problem_of (survey_from lists s.firsts s.seconds s.weights)) (picked_in (take (length s.firsts - 0) all)) p.smaller p.larger)) route)
            route
            → (answer (kept_counts p r) ≡ answer (why_counts (reason_of s e))) × (after ≡ route_in (reason_of s e) ++ drop (length (route_in (reason_of s e))) route)
        unfolding written kept_counts why_counts route_in kept_reason
        found_answered route {r} {after} fits r_is after_is = (
          rw (reason_is, group_named, smaller_named, larger_named, entries_are),
          after_are ∙ rw reason_is,
        )
          where
            fine : route_refusal (survey_from lists s.firsts s.seconds s.weights) (take (length s.firsts - 0) all) (length route) ≡ Fine
            fine = ap (route_refusal (survey_from lists s.firsts s.seconds s.weights) (take (length s.firsts - 0) all)) fits ∙ route_fine

            route_found : route_of (problem_of (survey_from lists s.firsts s.seconds s.weights)) (picked_in (take (length s.firsts - 0) all)) p.smaller p.larger ≡ entries
            route_found = rw (picks_kept, smaller_named, larger_named) route_same

            entries_are : r ≡ length entries
            entries_are = r_is ∙ rw (fine, route_found)

            after_are : after ≡ entries ++ drop (length entries) route
            after_are = after_is ∙ rw (fine, route_found)

-- What is answered, and what is left in the buffer.
pub kept_answered : (s : Survey) {lists marks : List ℕ} {e : ℕ} (route : List ℕ) {o : Outcome WhyCounts} {after : List ℕ} → KeptAsked s lists marks (length route) e
    → KeptAnswer s lists marks e route o after
    → (o ≡ answer (why_counts (reason_of s e))) × (after ≡ route_in (reason_of s e) ++ drop (length (route_in (reason_of s e))) route)
kept_answered s {lists} {marks} {e} route h left =
    let m = length s.firsts in
    let q = survey_from lists s.firsts s.seconds s.weights in
    let all = marks_but marks 2 m m in
    let whole = held_few m h.asked.ok.joinable.askable.survey.edges_few in
    let told =
    found_answered s h refl left.pair_is {all = all} refl route refl
    (ap (λ (k : ℕ). entries_for q (take (k - 0) all) left.pair route) whole)
    (left.route_is ∙ ap (λ (k : ℕ). route_left q (take (k - 0) all) left.pair route) whole) in
    (left.counts_are ∙ told.0, told.1)
