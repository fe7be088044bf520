-- What the refusals 1 to 6 find, case by case, and what a survey without them is: sound, and within the limits.
-- The code's decisions and every caller that has seen `Fine` use it.
use Rattle.std.specs.Prelude.{ℕ, ◌<◌, ◌≤◌, ◌≡◌, refl, List, Bool, true, ◌&&◌, ◌||◌, not, ltb}
use native.Mathlib.Omega.{arith}
use Rattle.std.proofs.Common.{ap, sym, ◌∙◌}
use Rattle.std.proofs.Math.Bool.{false}
use Rattle.std.proofs.Math.ListN.{length, get_or}
use Rattle.std.proofs.Math.Dec.{eqb, leb}
use borrow.Author.Tests.{eq-eqb, ne_eqb, le-leb, lt-leb, le-ltb, lt-ltb, eqb-true, eqb-false, ltb-false, leb-false, not-false}
use Rattle.base_finite.specs.Laws.Test.{and_left, and_right, or_false_left, or_false_right, not_of_false, not_true_false}
use Rattle.base_limits.specs.Limits.{max_vertices, max_edges, max_weight}
use Rattle.base_limits.specs.Verdict.{refuse_if, ◌before◌, lowest_below}
use Rattle.base_limits.specs.declared.Verdict.{Verdict}
use Rattle.base_limits.specs.declared.Verdict.TheVariants.{Fine, Refused}
use Rattle.base_limits.specs.Laws.Verdict.{before_assoc, before_fine, before_none, before_refused, fine_left, fine_right, refuse_true, refuse_false, fine_refuse, lowest_none, none_lowest}
use Rattle.theory_steiner.specs.Problem.{Sound}
use Rattle.survey_core.specs.Survey.{Survey, survey_with, survey_from, lists_of, vertex_count, edge_count, same_group, problem_of}
use Rattle.survey_core.specs.Lists.{lists_from}
use Rattle.survey_core.specs.Pairs.{pairs_refusal}
use Rattle.survey_core.specs.Sound.{EdgeSound, SurveySound}
use Rattle.survey_core.specs.Refusal.{edge_refusal, survey_refusal}
use Rattle.survey_core.proofs.Laws.Lists.{same_list_symmetric}
use Rattle.survey_core.proofs.Laws.Pairs.{pairs_fine, fine_pairs}

module _ (s : Survey) (e : ℕ) where
  pub edge_first_out : length s.groups ≤ get_or s.firsts e 0 → edge_refusal s e ≡ Refused 4 e
  unfolding edge_refusal vertex_count refuse_if ◌before◌
  edge_first_out h = rw (le-leb (length s.groups) (get_or s.firsts e 0) h)

  pub edge_second_out : get_or s.firsts e 0 < length s.groups → length s.groups ≤ get_or s.seconds e 0 → edge_refusal s e ≡ Refused 4 e
  unfolding edge_refusal vertex_count refuse_if ◌before◌
  edge_second_out g h = rw (lt-leb (length s.groups) (get_or s.firsts e 0) g, le-leb (length s.groups) (get_or s.seconds e 0) h)

  pub edge_loop : get_or s.firsts e 0 < length s.groups → get_or s.firsts e 0 ≡ get_or s.seconds e 0 → edge_refusal s e ≡ Refused 5 e
  unfolding edge_refusal vertex_count refuse_if ◌before◌
  edge_loop g h =
      let k : get_or s.seconds e 0 < length s.groups = omega arith in
      rw (
        lt-leb (length s.groups) (get_or s.firsts e 0) g,
        lt-leb (length s.groups) (get_or s.seconds e 0) k,
        eq-eqb (get_or s.firsts e 0) (get_or s.seconds e 0) h,
      )

  pub edge_heavy : get_or s.firsts e 0 < length s.groups → get_or s.seconds e 0 < length s.groups
      → (get_or s.firsts e 0 ≡ get_or s.seconds e 0 → ⊥) → max_weight < get_or s.weights e 0 → edge_refusal s e ≡ Refused 6 e
  unfolding edge_refusal vertex_count refuse_if ◌before◌
  edge_heavy g h k l =
      rw (
        lt-leb (length s.groups) (get_or s.firsts e 0) g,
        lt-leb (length s.groups) (get_or s.seconds e 0) h,
        ne_eqb (get_or s.firsts e 0) (get_or s.seconds e 0) k,
        lt-ltb max_weight (get_or s.weights e 0) l,
      )

  pub edge_fine : EdgeSound s e → edge_refusal s e ≡ Fine
  unfolding edge_refusal vertex_count refuse_if ◌before◌
  edge_fine h =
      rw (
        lt-leb (length s.groups) (get_or s.firsts e 0) h.first_below_law,
        lt-leb (length s.groups) (get_or s.seconds e 0) h.second_below,
        ne_eqb (get_or s.firsts e 0) (get_or s.seconds e 0) h.ends_differ,
        le-ltb max_weight (get_or s.weights e 0) h.weight_le,
      )

  pub fine_edge : edge_refusal s e ≡ Fine → EdgeSound s e
  unfolding edge_refusal vertex_count
  fine_edge h =
      let n = length s.groups in
      let x = get_or s.firsts e 0 in
      let y = get_or s.seconds e 0 in
      let four = fine_refuse (leb n x || leb n y) 4 e (fine_left _ _ h) in
      let rest = fine_right _ _ h in
      record {
        first_below_law = leb-false n x (or_false_left (leb n x) (leb n y) four);
        second_below = leb-false n y (or_false_right (leb n x) (leb n y) four);
        ends_differ = eqb-false x y (fine_refuse (eqb x y) 5 e (fine_left _ _ rest));
        weight_le = ltb-false max_weight (get_or s.weights e 0) (fine_refuse (ltb max_weight (get_or s.weights e 0)) 6 e (fine_right _ _ rest));
      }

module _ (s : Survey) where
  pub survey_empty : length s.groups ≡ 0 → survey_refusal s ≡ Refused 1 0
  unfolding survey_refusal vertex_count refuse_if ◌before◌
  survey_empty h = rw (eq-eqb (length s.groups) 0 h)

  pub survey_large : max_vertices < length s.groups → survey_refusal s ≡ Refused 1 0
  unfolding survey_refusal vertex_count refuse_if ◌before◌
  survey_large h =
      let some : length s.groups ≡ 0 → ⊥ = omega arith in
      rw (ne_eqb (length s.groups) 0 some, lt-ltb max_vertices (length s.groups) h)

  module _ (some : 1 ≤ length s.groups) (few : length s.groups ≤ max_vertices) where
    one_passes : (eqb (length s.groups) 0 || ltb max_vertices (length s.groups)) ≡ false
    one_passes =
        let none : length s.groups ≡ 0 → ⊥ = omega arith in
        rw (ne_eqb (length s.groups) 0 none, le-ltb max_vertices (length s.groups) few)

    pub survey_uneven : ((length s.firsts ≡ length s.seconds) × (length s.firsts ≡ length s.weights) → ⊥) → survey_refusal s ≡ Refused 2 0
    unfolding survey_refusal vertex_count edge_count
    survey_uneven h =
        let same = eqb (length s.firsts) (length s.seconds) in
        let alike = eqb (length s.firsts) (length s.weights) in
        let apart : (same && alike) ≡ false =
        not_true_false
        (same && alike)
        (λ k.
        h (
          eqb-true (length s.firsts) (length s.seconds) (and_left same alike k),
          eqb-true (length s.firsts) (length s.weights) (and_right same alike k),
        )) in
        before_fine (refuse_false one_passes 1 0) _ ∙ before_refused (refuse_true (not_of_false (same && alike) apart) 2 0) _

    module _ (seconds_long : length s.firsts ≡ length s.seconds) (weights_long : length s.firsts ≡ length s.weights) where
      two_passes : not (eqb (length s.firsts) (length s.seconds) && eqb (length s.firsts) (length s.weights)) ≡ false
      two_passes =
          rw (eq-eqb (length s.firsts) (length s.seconds) seconds_long, eq-eqb (length s.firsts) (length s.weights) weights_long)

      pub pairs_uneven : (length s.owners ≡ length s.others → ⊥) → survey_refusal s ≡ Refused 2 0
      unfolding survey_refusal vertex_count edge_count
      pairs_uneven h =
          before_fine (refuse_false one_passes 1 0) _
          ∙ before_fine (refuse_false two_passes 2 0) _
          ∙ before_refused (refuse_true (rw (ne_eqb (length s.owners) (length s.others) h)) 2 0) _

      module _ (pairs_long : length s.owners ≡ length s.others) where
        pairs_pass : not (eqb (length s.owners) (length s.others)) ≡ false
        pairs_pass = rw (eq-eqb (length s.owners) (length s.others) pairs_long)

        pub survey_many : max_edges < length s.firsts → survey_refusal s ≡ Refused 3 0
        unfolding survey_refusal vertex_count edge_count
        survey_many h =
            before_fine (refuse_false one_passes 1 0) _
            ∙ before_fine (refuse_false two_passes 2 0) _
            ∙ before_fine (refuse_false pairs_pass 2 0) _
            ∙ before_refused (refuse_true (lt-ltb max_edges (length s.firsts) h) 3 0) _

        pub survey_shaped : length s.firsts ≤ max_edges
            → survey_refusal s ≡ (lowest_below (edge_count s) (edge_refusal s) before pairs_refusal (lists_of s))
        unfolding survey_refusal vertex_count edge_count
        survey_shaped h =
            before_fine (refuse_false one_passes 1 0) _
            ∙ before_fine (refuse_false two_passes 2 0) _
            ∙ before_fine (refuse_false pairs_pass 2 0) _
            ∙ before_fine (refuse_false (le-ltb max_edges (length s.firsts) h) 3 0) _

-- Without pairs nothing is wrong with them.
no_pairs_refusal : (groups firsts seconds weights : List ℕ)
    → survey_refusal (survey_from groups firsts seconds weights)
    ≡ (refuse_if (eqb (length groups) 0 || ltb max_vertices (length groups)) 1 0
    before refuse_if (not (eqb (length firsts) (length seconds) && eqb (length firsts) (length weights))) 2 0
    before refuse_if (ltb max_edges (length firsts)) 3 0
    before lowest_below (length firsts) (edge_refusal (survey_from groups firsts seconds weights)))
unfolding survey_refusal pairs_refusal vertex_count edge_count lowest_below
no_pairs_refusal groups firsts seconds weights =
    let one = refuse_if (eqb (length groups) 0 || ltb max_vertices (length groups)) 1 0 in
    let two = refuse_if (not (eqb (length firsts) (length seconds) && eqb (length firsts) (length weights))) 2 0 in
    let three = refuse_if (ltb max_edges (length firsts)) 3 0 in
    let tracks = lowest_below (length firsts) (edge_refusal (survey_from groups firsts seconds weights)) in
    ap (λ v. one before two before v)
    (before_fine (refuse_false refl 2 0) (three before tracks before Fine) ∙ ap (λ v. three before v) (before_none tracks))

-- 2 comes from either test.
either_two : (t : Bool) (rest : Verdict) → rest ≡ Refused 2 0 → (refuse_if t 2 0 before rest) ≡ Refused 2 0
unfolding refuse_if ◌before◌
either_two true rest h = refl
either_two false rest h = h

-- `Fine` exactly if the survey is sound.
pub survey_fine : (s : Survey) → SurveySound s → survey_refusal s ≡ Fine
unfolding edge_count
survey_fine s h =
    survey_shaped s h.some h.few h.seconds_long h.weights_long h.pairs_long h.edges_few
    ∙ before_fine (lowest_none (edge_count s) (edge_refusal s) (λ e b. edge_fine s e (h.edges e b))) _
    ∙ pairs_fine (lists_of s) h.pairs

pub fine_survey : (s : Survey) → survey_refusal s ≡ Fine → SurveySound s
unfolding survey_refusal vertex_count edge_count
fine_survey s h =
    let n = length s.groups in
    let m = length s.firsts in
    let one = fine_refuse (eqb n 0 || ltb max_vertices n) 1 0 (fine_left _ _ h) in
    let rest = fine_right _ _ h in
    let two = not-false (eqb m (length s.seconds) && eqb m (length s.weights)) (fine_refuse _ 2 0 (fine_left _ _ rest)) in
    let pairs_rest = fine_right _ _ rest in
    let last = fine_right _ _ pairs_rest in
    let tracks = fine_right _ _ last in
    let positive : n ≡ 0 → ⊥ = eqb-false n 0 (or_false_left (eqb n 0) (ltb max_vertices n) one) in
    record {
      some = omega (arith, positive);
      few = ltb-false max_vertices n (or_false_right (eqb n 0) (ltb max_vertices n) one);
      seconds_long = eqb-true m (length s.seconds) (and_left (eqb m (length s.seconds)) (eqb m (length s.weights)) two);
      weights_long = eqb-true m (length s.weights) (and_right (eqb m (length s.seconds)) (eqb m (length s.weights)) two);
      edges_few = ltb-false max_edges m (fine_refuse (ltb max_edges m) 3 0 (fine_left _ _ last));
      edges = λ e b. fine_edge s e (none_lowest m (edge_refusal s) (fine_left _ _ tracks) e b);
      pairs_long =
          eqb-true (length s.owners) (length s.others) (not-false (eqb (length s.owners) (length s.others)) (fine_refuse _ 2 0 (fine_left _ _ pairs_rest)));
      pairs = fine_pairs (lists_of s) (fine_right _ _ tracks);
    }

-- Without pairs the tracks decide last.
pub tracks_decide : (groups firsts seconds weights : List ℕ) → 1 ≤ length groups → length groups ≤ max_vertices
    → length firsts ≡ length seconds → length firsts ≡ length weights → length firsts ≤ max_edges
    → lowest_below (edge_count (survey_from groups firsts seconds weights)) (edge_refusal (survey_from groups firsts seconds weights))
    ≡ survey_refusal (survey_from groups firsts seconds weights)
unfolding pairs_refusal lowest_below
tracks_decide groups firsts seconds weights some few seconds_long weights_long edges_few =
    sym (survey_shaped (survey_from groups firsts seconds weights) some few seconds_long weights_long refl edges_few ∙ before_none _)

-- Pairs of one length: the four other buffers decide, then the pairs.
pub pairs_decide : (groups firsts seconds weights owners others : List ℕ) → length owners ≡ length others
    → survey_refusal (survey_with groups firsts seconds weights owners others)
    ≡ (survey_refusal (survey_from groups firsts seconds weights) before pairs_refusal (lists_from groups owners others))
unfolding survey_refusal edge_refusal vertex_count edge_count
pairs_decide groups firsts seconds weights owners others even =
    let n = length groups in
    let m = length firsts in
    let one = refuse_if (eqb n 0 || ltb max_vertices n) 1 0 in
    let two = refuse_if (not (eqb m (length seconds) && eqb m (length weights))) 2 0 in
    let three = refuse_if (ltb max_edges m) 3 0 in
    let tracks = lowest_below m (edge_refusal (survey_from groups firsts seconds weights)) in
    let pairs = pairs_refusal (lists_from groups owners others) in
    let passes : refuse_if (not (eqb (length owners) (length others))) 2 0 ≡ Fine = refuse_false (rw (eq-eqb (length owners) (length others) even)) 2 0 in
    ap (λ v. one before two before v) (before_fine passes (three before tracks before pairs))
    ∙ sym
    (ap (λ v. v before pairs) (no_pairs_refusal groups firsts seconds weights)
    ∙ before_assoc one (two before three before tracks) pairs
    ∙ ap (λ v. one before v) (before_assoc two (three before tracks) pairs ∙ ap (λ v. two before v) (before_assoc three tracks pairs)))

-- A sound survey is sound without its pairs.
pub fine_plain : (groups firsts seconds weights owners others : List ℕ) → survey_refusal (survey_with groups firsts seconds weights owners others) ≡ Fine
    → survey_refusal (survey_from groups firsts seconds weights) ≡ Fine
fine_plain groups firsts seconds weights owners others h =
    let even = (fine_survey (survey_with groups firsts seconds weights owners others) h).pairs_long in
    fine_left _ _ (sym (pairs_decide groups firsts seconds weights owners others even) ∙ h)

-- Pairs of two lengths: 1, or 2.
pub pairs_differ : (s : Survey) → (length s.owners ≡ length s.others → ⊥)
    → survey_refusal s ≡ (refuse_if (eqb (length s.groups) 0 || ltb max_vertices (length s.groups)) 1 0 before Refused 2 0)
unfolding survey_refusal vertex_count edge_count
pairs_differ s h =
    ap (λ v. refuse_if (eqb (length s.groups) 0 || ltb max_vertices (length s.groups)) 1 0 before v)
    (either_two (not (eqb (length s.firsts) (length s.seconds) && eqb (length s.firsts) (length s.weights))) _
    (before_refused (refuse_true (not_of_false (eqb (length s.owners) (length s.others)) (ne_eqb (length s.owners) (length s.others) h)) 2 0) _))

-- Membership of one group is symmetric, whatever the survey.
pub same_group_symmetric : (s : Survey) (u v : ℕ) → same_group s u v ≡ true → same_group s v u ≡ true
unfolding same_group
same_group_symmetric s = same_list_symmetric (lists_of s)

pub survey_sound : (s : Survey) → SurveySound s → Sound (problem_of s)
unfolding problem_of vertex_count edge_count
survey_sound s h =
    record {
      first_below_law = λ e b. (h.edges e b).first_below_law;
      second_below = λ e b. (h.edges e b).second_below;
      ends_differ = λ e b. (h.edges e b).ends_differ;
      symmetric = same_group_symmetric s;
    }
