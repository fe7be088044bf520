-- Each reason is true of the growth: what it names is lowest, its route is the only path of kept tracks, without the track the pair is not linked; a dropped track is spared by every
-- list; a round is the least after which the picks link the ends.
use Prim.Native.Nat.{ℕ, suc, ◌<◌, ◌≤◌}
use Rattle.std.proofs.Common.{arith, ap, sym, inl, inr}
use Rattle.std.specs.Prelude.{◌≡◌, ◌⊎◌, Bool}
use Rattle.std.proofs.Math.Path.{refl, subst}
use Rattle.std.proofs.Math.Logic.{⊎_elim}
use Rattle.std.proofs.Math.Bool.{true, false, not}
use Rattle.std.proofs.Math.Dec.{eqb}
use borrow.Author.Tests.{eqb-true, eq-eqb}
use Rattle.base_finite.specs.Below.{any_below}
use Rattle.base_finite.specs.Laws.Test.{either, and_both, true_not_false, not_true_false}
use Rattle.base_finite.specs.Laws.Below.{any_none, lt_or_ge}
use Rattle.base_limits.specs.declared.Verdict.{Verdict}
use Rattle.base_limits.specs.declared.Verdict.TheVariants.{Fine, Refused}
use Rattle.theory_graph.specs.Path.{Leads, forth, back, Forest}
use Rattle.theory_graph.proofs.Laws.Linked.{linked_mono, without_elim, without_mono}
use Rattle.theory_graph.proofs.Laws.Component.{linked_same_label}
use Rattle.theory_steiner.specs.Problem.{Sound, Bounded, Joins, all_usable, joined}
use Rattle.theory_steiner.specs.Growth.{state_at, grown, start}
use Rattle.theory_steiner.specs.Pruning.{needed, picked, kept}
use Rattle.theory_steiner.proofs.Laws.Joined.{label_linked, linked_label, needed_iff, joined_elim}
use Rattle.theory_steiner.proofs.Laws.Partition.{picked_usable, partition}
use Rattle.theory_steiner.proofs.Laws.Round.{state_at_reached}
use Rattle.theory_steiner.proofs.Laws.Rounds.{grown_reached, state_at_last, takes_rounds}
use Rattle.theory_steiner.proofs.Laws.Finish.{kept_joins, kept_picked, kept_edges, picked_acyclic}
use Rattle.theory_route.specs.First.{first_below}
use Rattle.theory_route.proofs.Laws.First.{IsFirst, first_exists}
use Rattle.theory_route.specs.Route.{route_of, IsRoute}
use Rattle.theory_route.proofs.Laws.Route.{route_of_law, route_is, route_uses}
use Rattle.survey_core.specs.Survey.{Survey, vertex_count, edge_count, problem_of, group_joined, components_of}
use Rattle.survey_core.specs.Sound.{SurveySound, ByteGroups}
use Rattle.survey_core.specs.Refusal.{group_refusal, LowestUnjoined}
use Rattle.survey_core.proofs.Laws.Refusal.{survey_sound}
use Rattle.survey_core.proofs.Laws.Group.{group_fine, group_refused, group_joined_elim, joins_groups}
use Rattle.survey_components.specs.Laws.Forest.{forest_sub}
use Rattle.why_rule.specs.Reason.{others, place_of, parted_list, is_parted, low_member, high_member, kept_reason, joined_after, round_of, reason_of}
use Rattle.why_rule.specs.True.{LinkedBy, LowestPair, NeedsTrue, SparedTrue, LinkedAfter, FirstJoined, TrueOf, needs_true, spared_true, passed_true}
use Rattle.why_rule.proofs.Laws.First.{zero_first, zero_none}
use Rattle.why_rule.proofs.Laws.Kept.{others_alike, kept_list, kept_pair}
use Rattle.why_rule.proofs.Laws.Pair.{parted_first, parted_second, parted_labels, parted_intro, low_first, high_first, pair_parted, low_lt_high, pair_lowest}

module _ (s : Survey) (sound : SurveySound s) where
  ok : Sound (problem_of s)
  ok = survey_sound s sound

  some : 0 < (problem_of s).vertices
  unfolding problem_of vertex_count
  some = sound.some

  pub picked_bounded : Bounded (problem_of s) (picked (problem_of s))
  unfolding picked
  picked_bounded e h = (picked_usable (problem_of s) (grown_reached (problem_of s)) e h).0

  others_bounded : (e : ℕ) → Bounded (problem_of s) (others s e)
  others_bounded e f h = picked_bounded f (without_elim (picked (problem_of s)) e f h).0

  -- ---- not picked

  first_below_law : (e : ℕ) → e < edge_count s → (problem_of s).first e < (problem_of s).vertices
  unfolding problem_of vertex_count edge_count
  first_below_law e b = (sound.edges e b).first_below_law

  second_below : (e : ℕ) → e < edge_count s → (problem_of s).second e < (problem_of s).vertices
  unfolding problem_of vertex_count edge_count
  second_below e b = (sound.edges e b).second_below

  joined_linked : (e r : ℕ) → e < edge_count s → joined_after (problem_of s) e r ≡ true → LinkedAfter s e r
  unfolding joined_after
  joined_linked e r b h = (partition (problem_of s) ok (state_at_reached (problem_of s) r)).sound _ _ (first_below_law e b) (second_below e b) (eqb-true _ _ h)

  pub linked_joined : (e r : ℕ) → LinkedAfter s e r → joined_after (problem_of s) e r ≡ true
  unfolding joined_after
  linked_joined e r h = eq-eqb _ _ (linked_same_label (state_at (problem_of s) r).label (partition (problem_of s) ok (state_at_reached (problem_of s) r)).ends h)

  apart_at_first : (e : ℕ) → e < edge_count s → joined_after (problem_of s) e 0 ≡ true → ⊥
  unfolding joined_after state_at start problem_of edge_count
  apart_at_first e b h = (sound.edges e b).ends_differ (eqb-true _ _ h)

  -- After the last round nothing changes.
  late_joined : (e r : ℕ) → (grown (problem_of s)).rounds ≤ r → joined_after (problem_of s) e r ≡ true → joined_after (problem_of s) e (grown (problem_of s)).rounds ≡ true
  unfolding joined_after
  late_joined e r b h =
      subst (λ q. eqb (q.label ((problem_of s).first e)) (q.label ((problem_of s).second e)) ≡ true)
      (state_at_last (problem_of s) (grown (problem_of s)).rounds r (takes_rounds (problem_of s) ok some).ended b) h

  pub round_true : (e : ℕ) → e < edge_count s → ((round_of (problem_of s) e ≡ 0) × ((r : ℕ) → LinkedAfter s e r → ⊥)) ⊎ FirstJoined s e (round_of (problem_of s) e)
  unfolding round_of
  round_true e b = by (either (any_below (suc (grown (problem_of s)).rounds) (joined_after (problem_of s) e)))
    where
      R : ℕ
      R = suc (grown (problem_of s)).rounds

      t : ℕ → Bool
      t = joined_after (problem_of s) e

      by : (any_below R t ≡ true) ⊎ (any_below R t ≡ false)
          → ((round_of (problem_of s) e ≡ 0) × ((r : ℕ) → LinkedAfter s e r → ⊥)) ⊎ FirstJoined s e (round_of (problem_of s) e)
      by (inr h) =
          let none = any_none R t h in
          inl (
            sym (zero_none R t none),
            λ r l.
                let j = linked_joined e r l in
                ⊎_elim
                (λ less. true_not_false (t r) j (none r (omega arith)))
                (λ late. true_not_false (t (grown (problem_of s)).rounds) (late_joined e r late j) (none (grown (problem_of s)).rounds (omega arith)))
                (lt_or_ge r (grown (problem_of s)).rounds),
          )
      by (inl h) =
          let f : IsFirst R t (first_below R t) = first_exists R t h in
          inr
          (subst (FirstJoined s e) (zero_first R t (first_below R t) f)
          (record {
            some = let z : first_below R t ≡ 0 → ⊥ = λ k. apart_at_first e b (subst (λ i. t i ≡ true) k f.passes) in omega arith;
            within = let k = f.below in omega arith;
            joined = joined_linked e (first_below R t) b f.passes;
            not_before = λ i c l. true_not_false (t i) (linked_joined e i l) (f.none_before i c);
          }))

  -- ---- kept and dropped

  module _ (numbered : ByteGroups s) (joinable : Joins (problem_of s) (all_usable (problem_of s))) (e : ℕ) where
    abbrev label : ℕ → ℕ
    label = components_of s (others s e)

    labels_apart : (u w : ℕ) → (label u ≡ label w → ⊥) → LinkedBy s (others s e) u w → ⊥
    unfolding components_of problem_of
    labels_apart u w d l = d (linked_label (problem_of s) (others s e) (others_bounded e) u w l)

    apart_labels : (u w : ℕ) → (LinkedBy s (others s e) u w → ⊥) → label u ≡ label w → ⊥
    unfolding components_of problem_of
    apart_labels u w d l = d (label_linked (problem_of s) (others s e) u w l)

    pub spared_holds : picked (problem_of s) e ≡ true → kept (problem_of s) e ≡ false → SparedTrue s e
    unfolding kept needed
    spared_holds p k =
        record {
          is_picked = p;
          not_kept = k;
          others_join = joins_groups s (others s e) (joined_elim (problem_of s) (others s e) (all_joined p k));
          kept_join = joins_groups s (kept (problem_of s)) (kept_joins (problem_of s) ok some joinable);
        }
      where
        all_joined : picked (problem_of s) e ≡ true → kept (problem_of s) e ≡ false → joined (problem_of s) (others s e) ≡ true
        all_joined p k = ⊎_elim (λ h. h) (λ h. true_not_false (kept (problem_of s) e) (and_both (picked (problem_of s) e) (not (joined (problem_of s) (others s e))) p (ap not h)) k) (either (joined (problem_of s) (others s e)))

    module _ (is_kept : kept (problem_of s) e ≡ true) where
      fails : Joins (problem_of s) (others s e) → ⊥
      unfolding kept
      fails = ((needed_iff (problem_of s) (picked (problem_of s)) picked_bounded e).0 is_kept).1

      -- The list is the lowest that the others do not join.
      pub parted_list_law : LowestUnjoined s (others s e) (parted_list s e)
      unfolding parted_list place_of
      parted_list_law = by (group_refusal s 0 (others s e)) refl
        where
          by : (v : Verdict) → group_refusal s 0 (others s e) ≡ v → LowestUnjoined s (others s e) (place_of (group_refusal s 0 (others s e)))
          by Fine h = absurd (fails (group_fine s 0 (others s e) (others_bounded e) numbered h))
          by (Refused k g) h = rw h (group_refused s 0 (others s e) (others_bounded e) k g h).1

      abbrev g : ℕ
      g = parted_list s e

      pub list_apart : group_joined s (components_of s (others s e)) (parted_list s e) ≡ false
      list_apart =
          not_true_false (group_joined s (components_of s (others s e)) g) (λ h. parted_list_law.unjoined (group_joined_elim s (others s e) g h))

      abbrev low : ℕ
      low = low_member s (components_of s (others s e)) (parted_list s e)

      abbrev high : ℕ
      high = high_member s (components_of s (others s e)) (parted_list s e)

      pair : is_parted s (components_of s (others s e)) (parted_list s e) low high ≡ true
      pair = pair_parted s (components_of s (others s e)) (parted_list s e) list_apart

      pair_apart : LinkedBy s (others s e) low high → ⊥
      pair_apart = labels_apart low high (parted_labels s label g low high pair)

      lowest_pair_is : LowestPair s (others s e) (parted_list s e) low high
      lowest_pair_is =
          record {
            rising = low_lt_high s label g list_apart;
            below = (high_first s label g list_apart).below;
            low_member_law = parted_first s label g low high pair;
            high_member_law = parted_second s label g low high pair;
            parted = pair_apart;
            lowest = λ x y c b mx my d. pair_lowest s label g list_apart x y b (parted_intro s label g x y mx my (apart_labels x y d));
          }

      pub kept_bounded : Bounded (problem_of s) (kept (problem_of s))
      kept_bounded f h = (kept_edges (problem_of s) ok some joinable f h).0

      pub forest : Forest (problem_of s).first (problem_of s).second (kept (problem_of s))
      forest = forest_sub (kept_picked (problem_of s) ok some joinable) (picked_acyclic (problem_of s) ok some joinable)

      pub ends_below : (f u v : ℕ) → kept (problem_of s) f ≡ true → Leads (problem_of s).first (problem_of s).second f u v → v < (problem_of s).vertices
      ends_below f u v h (forth p q) = subst (λ x. x < (problem_of s).vertices) q (ok.second_below f (kept_bounded f h))
      ends_below f u v h (back p q) = subst (λ x. x < (problem_of s).vertices) q (ok.first_below_law f (kept_bounded f h))

      pub low_vertex : low < (problem_of s).vertices
      unfolding problem_of
      low_vertex = (low_first s label g list_apart).below

      pair_linked : LinkedBy s (kept (problem_of s)) low high
      pair_linked =
          joins_groups s (kept (problem_of s)) (kept_joins (problem_of s) ok some joinable) g low high (low_first s label g list_apart).below
          (high_first s label g list_apart).below (parted_first s label g low high pair) (parted_second s label g low high pair)

      route_there : IsRoute (problem_of s).first (problem_of s).second (kept (problem_of s)) low high (route_of (problem_of s) (kept (problem_of s)) low high)
      route_there = route_of_law (problem_of s) (kept (problem_of s)) kept_bounded forest ends_below low high low_vertex pair_linked

      pub needs_holds : NeedsTrue s e (parted_list s e) low high (route_of (problem_of s) (kept (problem_of s)) low high)
      needs_holds =
          record {
            is_kept = is_kept;
            lowest_list = parted_list_law;
            lowest_pair = lowest_pair_is;
            same_links = others_alike s sound joinable e is_kept;
            lowest_kept_list = kept_list s sound joinable e is_kept parted_list_law;
            lowest_kept_pair = kept_pair s sound joinable e is_kept lowest_pair_is;
            path = route_there;
            only = λ es r. sym (route_is (problem_of s) (kept (problem_of s)) kept_bounded forest ends_below low_vertex r.route);
            on_route = route_uses e route_there.route (λ l. pair_apart (linked_mono (without_mono e (kept_picked (problem_of s) ok some joinable)) l));
            apart = λ F sub l. pair_apart (linked_mono (without_mono e sub) l);
          }

    -- Every reason is true.
    pub reason_true : e < edge_count s → TrueOf s e (reason_of s e)
    unfolding reason_of kept_reason
    reason_true b = by (kept (problem_of s) e) (picked (problem_of s) e) refl refl
      where
        by : (k p : Bool) → kept (problem_of s) e ≡ k → picked (problem_of s) e ≡ p → TrueOf s e (reason_of s e)
        by true p hk hp = rw hk (needs_true (needs_holds hk))
        by false true hk hp = rw (hk, hp) (spared_true (spared_holds hp hk))
        by false false hk hp = rw (hk, hp) (passed_true (record { not_picked = hp; when = round_true e b }))
