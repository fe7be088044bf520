-- What the refusals leave of ties, and of two surveys and their ties (document 02, No. 9).
use Rattle.std.specs.Prelude.{ℕ, ◌<◌, ◌≤◌, ◌≡◌, false, ◌||◌, List, ltb}
use Rattle.std.proofs.Common.{arith, ◌∙◌}
use Rattle.std.proofs.Math.ListN.{length, get_or}
use Rattle.std.proofs.Math.Dec.{eqb, leb}
use borrow.Author.Tests.{eq-eqb, le-ltb, lt-leb, eqb-true, ltb-false, leb-false, not-false}
use Rattle.base_finite.specs.Below.{count_below}
use Rattle.base_finite.specs.Laws.Below.{any_intro, any_elim, Found, count_le}
use Rattle.base_finite.specs.Laws.Test.{true_not_false, not_true_false, or_false_left, or_false_right}
use Rattle.base_limits.specs.Limits.{max_vertices, max_edges, max_pairs}
use Rattle.base_limits.specs.Verdict.{refuse_if, ◌before◌}
use Rattle.base_limits.specs.declared.Verdict.TheVariants.{Fine}
use Rattle.base_limits.specs.Laws.Verdict.{before_fine, fine_left, fine_right, refuse_false, fine_refuse, lowest_none, none_lowest}
use Rattle.survey_core.specs.Survey.{Survey, vertex_count, edge_count}
use Rattle.survey_core.proofs.Laws.Refusal.{survey_fine, fine_survey}
use Rattle.merge_rule.specs.Ties.{Ties, is_tied_below}
use Rattle.merge_rule.specs.Merged.{merged}
use Rattle.merge_rule.specs.Refusal.{SurveyCounts, counts_of, Room, tie_refusal, ties_refusal, large_refusal, room_refusal, merge_refusal}
use Rattle.merge_rule.specs.Sound.{TiesSound, Mergeable, RoomFor}
use Rattle.merge_rule.proofs.Laws.Count.{tied_count}

-- ---- ties

-- Not tied before: no tie below k names x.
module _ (side : List ℕ) (k x : ℕ) where
  not_tied_before : is_tied_below side k x ≡ false → (i : ℕ) → i < k → get_or side i 0 ≡ x → ⊥
  unfolding is_tied_below
  not_tied_before h i b e =
      true_not_false (is_tied_below side k x) (any_intro k (λ i. eqb (get_or side i 0) x) i b (eq-eqb (get_or side i 0) x e)) h

  before_not_tied : ((i : ℕ) → i < k → get_or side i 0 ≡ x → ⊥) → is_tied_below side k x ≡ false
  unfolding is_tied_below
  before_not_tied h =
      not_true_false (is_tied_below side k x)
      (λ t.
      let f : Found k (λ i. eqb (get_or side i 0) x) = any_elim k (λ i. eqb (get_or side i 0) x) t in
      h f.at f.below (eqb-true (get_or side f.at 0) x f.passes))

-- What 22 leaves of tie i.
record TieSound (n m : ℕ) (ties : Ties) (i : ℕ) : Type 0 where
  first_below_law : get_or ties.firsts i 0 < n
  second_below : get_or ties.seconds i 0 < m
  first_once : (j : ℕ) → j < i → get_or ties.firsts j 0 ≡ get_or ties.firsts i 0 → ⊥
  second_once : (j : ℕ) → j < i → get_or ties.seconds j 0 ≡ get_or ties.seconds i 0 → ⊥

module _ (n m : ℕ) (ties : Ties) where
  fine_tie : (i : ℕ) → tie_refusal n m ties i ≡ Fine → TieSound n m ties i
  unfolding tie_refusal
  fine_tie i h =
      let u = get_or ties.firsts i 0 in
      let v = get_or ties.seconds i 0 in
      let range = fine_refuse (leb n u || leb m v) 22 i (fine_left _ _ h) in
      let rest = fine_right _ _ h in
      record {
        first_below_law = leb-false n u (or_false_left (leb n u) (leb m v) range);
        second_below = leb-false m v (or_false_right (leb n u) (leb m v) range);
        first_once = not_tied_before ties.firsts i u (fine_refuse (is_tied_below ties.firsts i u) 22 i (fine_left _ _ rest));
        second_once = not_tied_before ties.seconds i v (fine_refuse (is_tied_below ties.seconds i v) 22 i (fine_right _ _ rest));
      }

  tie_fine : (i : ℕ) → TieSound n m ties i → tie_refusal n m ties i ≡ Fine
  unfolding tie_refusal refuse_if ◌before◌
  tie_fine i h =
      let u = get_or ties.firsts i 0 in
      let v = get_or ties.seconds i 0 in
      rw (
        lt-leb n u h.first_below_law,
        lt-leb m v h.second_below,
        before_not_tied ties.firsts i u h.first_once,
        before_not_tied ties.seconds i v h.second_once,
      )

  -- `Fine` exactly if the ties are sound.
  pub fine_ties : ties_refusal n m ties ≡ Fine → TiesSound n m ties
  unfolding ties_refusal
  fine_ties h =
      let k = length ties.firsts in
      let each : (i : ℕ) → i < k → TieSound n m ties i = λ i b. fine_tie i (none_lowest k (tie_refusal n m ties) (fine_right _ _ h) i b) in
      record {
        long = eqb-true k (length ties.seconds) (not-false (eqb k (length ties.seconds)) (fine_refuse _ 2 0 (fine_left _ _ h)));
        first_below_law = λ i b. (each i b).first_below_law;
        second_below = λ i b. (each i b).second_below;
        first_once = λ i j c b. (each j b).first_once i c;
        second_once = λ i j c b. (each j b).second_once i c;
      }

  -- No more than n ties pass: a longer list ends in 22, at place n if not before.
  pub ties_before_few : (i : ℕ) → ((j : ℕ) → j < i → tie_refusal n m ties j ≡ Fine) → i ≤ n
  ties_before_few i none =
      let count : count_below n (is_tied_below ties.firsts i) ≡ i =
      tied_count ties.firsts n i (λ j b. (fine_tie j (none j b)).first_below_law) (λ j k c b. (fine_tie k (none k b)).first_once j c) i (omega arith) in
      omega (arith, count, count_le n (is_tied_below ties.firsts i))

  pub long_ties_refused : n < length ties.firsts → ties_refusal n m ties ≡ Fine → ⊥
  unfolding ties_refusal
  long_ties_refused long h =
      omega (arith, long, ties_before_few (length ties.firsts) (none_lowest (length ties.firsts) (tie_refusal n m ties) (fine_right _ _ h)))

  pub ties_fine : TiesSound n m ties → ties_refusal n m ties ≡ Fine
  unfolding ties_refusal
  ties_fine h =
      before_fine (refuse_false (rw (eq-eqb (length ties.firsts) (length ties.seconds) h.long)) 2 0) _
      ∙ lowest_none (length ties.firsts) (tie_refusal n m ties)
      (λ i b.
      tie_fine i
      (record {
        first_below_law = h.first_below_law i b;
        second_below = h.second_below i b;
        first_once = λ j c. h.first_once j i c b;
        second_once = λ j c. h.second_once j i c b;
      }))

-- ---- the whole

fine_room : (c : SurveyCounts) (room : Room) → room_refusal c room ≡ Fine → RoomFor c room
unfolding room_refusal
fine_room c room h =
    let g = ltb room.groups c.vertices in
    let f = ltb room.firsts c.edges in
    let s = ltb room.seconds c.edges in
    let w = ltb room.weights c.edges in
    let o = ltb room.owners c.pairs in
    let x = ltb room.others c.pairs in
    let rest = fine_right _ _ h in
    let tracks = fine_refuse (f || s || w) 7 0 (fine_left _ _ rest) in
    let pairs = fine_refuse (o || x) 7 0 (fine_right _ _ rest) in
    record {
      groups = ltb-false room.groups c.vertices (fine_refuse g 7 0 (fine_left _ _ h));
      firsts = ltb-false room.firsts c.edges (or_false_left f s (or_false_left (f || s) w tracks));
      seconds = ltb-false room.seconds c.edges (or_false_right f s (or_false_left (f || s) w tracks));
      weights = ltb-false room.weights c.edges (or_false_right (f || s) w tracks);
      owners = ltb-false room.owners c.pairs (or_false_left o x pairs);
      others = ltb-false room.others c.pairs (or_false_right o x pairs);
    }

room_fine : (c : SurveyCounts) (room : Room) → RoomFor c room → room_refusal c room ≡ Fine
unfolding room_refusal refuse_if ◌before◌
room_fine c room h =
    rw (
      le-ltb room.groups c.vertices h.groups,
      le-ltb room.firsts c.edges h.firsts,
      le-ltb room.seconds c.edges h.seconds,
      le-ltb room.weights c.edges h.weights,
      le-ltb room.owners c.pairs h.owners,
      le-ltb room.others c.pairs h.others,
    )

module _ (a b : Survey) (ties : Ties) (room : Room) where
  -- No refusal exactly if both surveys and the ties are sound and the result is within the limits and has room.
  pub fine_merge : merge_refusal a b ties room ≡ Fine → Mergeable a b ties
  unfolding merge_refusal large_refusal counts_of vertex_count edge_count
  fine_merge h =
      let r = merged a b ties in
      let after_first = fine_right _ _ h in
      let after_second = fine_right _ _ after_first in
      let large = fine_left _ _ (fine_right _ _ after_second) in
      record {
        first_sound = fine_survey a (fine_left _ _ h);
        second_sound = fine_survey b (fine_left _ _ after_first);
        ties_sound = fine_ties (length a.groups) (length b.groups) ties (fine_left _ _ after_second);
        few = ltb-false max_vertices (length r.groups) (fine_refuse _ 1 0 (fine_left _ _ large));
        edges_few = ltb-false max_edges (length r.firsts) (fine_refuse _ 3 0 (fine_left _ _ (fine_right _ _ large)));
        pairs_few = ltb-false max_pairs (length r.owners) (fine_refuse _ 18 max_pairs (fine_right _ _ (fine_right _ _ large)));
      }

  pub fine_merge_room : merge_refusal a b ties room ≡ Fine → RoomFor (counts_of (merged a b ties)) room
  unfolding merge_refusal
  fine_merge_room h = fine_room (counts_of (merged a b ties)) room (fine_right _ _ (fine_right _ _ (fine_right _ _ (fine_right _ _ h))))

  pub merge_fine : Mergeable a b ties → RoomFor (counts_of (merged a b ties)) room → merge_refusal a b ties room ≡ Fine
  unfolding merge_refusal large_refusal counts_of vertex_count edge_count
  merge_fine h k =
      before_fine (survey_fine a h.first_sound) _
      ∙ before_fine (survey_fine b h.second_sound) _
      ∙ before_fine (ties_fine (length a.groups) (length b.groups) ties h.ties_sound) _
      ∙ before_fine
      (before_fine (refuse_false (le-ltb max_vertices (length (merged a b ties).groups) h.few) 1 0) _
      ∙ before_fine (refuse_false (le-ltb max_edges (length (merged a b ties).firsts) h.edges_few) 3 0) _
      ∙ refuse_false (le-ltb max_pairs (length (merged a b ties).owners) h.pairs_few) 18 max_pairs) _
      ∙ room_fine (counts_of (merged a b ties)) room k
