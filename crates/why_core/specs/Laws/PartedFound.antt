-- What the loops and returns leave: marks of 2 as a set of tracks, and the pair as it is found. The call that explains a kept track cites the sets.
use Rattle.std.specs.Prelude.{ℕ, ◌-◌, ◌<◌, ◌≤◌, ◌≡◌, refl, ◌⊎◌, Bool, ◌&&◌, List, length, get_or, take, replicate}
use Rattle.std.proofs.Common.{arith, ◌∙◌, inl, inr, get_or-take, length-take-le}
use Rattle.std.proofs.Math.Nat.{sub-zero}
use Rattle.std.proofs.Math.Path.{ap, sym, subst, fun_ext}
use Rattle.std.proofs.Math.Logic.{⊎_elim}
use Rattle.std.proofs.Math.Bool.{true, false, not}
use Rattle.std.proofs.lemmas.List.{length-replicate, get_or-replicate}
use Rattle.std.proofs.Math.ListN.{get_or-eq_default}
use Rattle.std.proofs.Math.Dec.{eqb, leb}
use borrow.Author.Tests.{ne_eqb, eq-eqb}
use Rattle.base_finite.specs.Below.{counted}
use Rattle.base_finite.specs.Laws.Below.{lt_or_ge, counted_false}
use Rattle.base_finite.specs.Laws.Test.{not_true_false, true_not_false, and_right}
use Rattle.base_buffer.specs.Store.{remade}
use Rattle.base_buffer.proofs.Laws.Store.{length_remade, remade_passed, remade_ahead}
use Rattle.base_limits.specs.Limits.{max_vertices, max_edges}
use Rattle.base_limits.specs.Verdict.{◌before◌, written}
use Rattle.base_limits.specs.declared.Verdict.{Verdict}
use Rattle.base_limits.specs.declared.Verdict.TheVariants.{Fine, Refused}
use Rattle.theory_route.specs.First.{first_below}
use Rattle.survey_core.specs.Survey.{Survey, survey_from, lists_of}
use Rattle.survey_core.specs.Lists.{in_list}
use Rattle.survey_core.specs.Refusal.{survey_refusal, group_refusal}
use Rattle.survey_components.specs.Labels.{chosen_mark, chosen, picked_in, labels_of}
use Rattle.survey_components.specs.declared.Chosen.TheVariants.{Kept}
use Rattle.why_rule.specs.Reason.{place_of}
use Rattle.why_core.specs.declared.parted.Pair.{Pair}
use Rattle.why_core.specs.Parted.{marked_but, label_in, PairOf}

-- ---- marks of 2

two_or_none : (t : Bool) → not (eqb (counted t 2) 0) ≡ t
unfolding counted
two_or_none true = refl
two_or_none false = refl

two_is_kept : (t : Bool) → eqb (counted t 2) 2 ≡ t
unfolding counted
two_is_kept true = refl
two_is_kept false = refl

module _ (t : ℕ → Bool) (m : ℕ) (few : m ≤ max_edges) {all : List ℕ} (all_are : all ≡ remade (λ e x. counted (t e) 2) m (replicate max_edges 0)) where
  pub twos_long : length all ≡ max_edges
  twos_long = ap length all_are ∙ length_remade _ m (replicate max_edges 0) ∙ length-replicate {A = ℕ} max_edges 0

  two_at : (f : ℕ) → f < m → get_or all f 0 ≡ counted (t f) 2
  two_at f b =
      ap (λ l. get_or l f 0) all_are
      ∙ remade_passed (λ e x. counted (t e) 2) m (replicate max_edges 0) f b (omega (arith, length-replicate {A = ℕ} max_edges 0))

  none_past : (f : ℕ) → m ≤ f → get_or all f 0 ≡ 0
  none_past f b = ap (λ l. get_or l f 0) all_are ∙ remade_ahead (λ e x. counted (t e) 2) m (replicate max_edges 0) f b ∙ zeros (lt_or_ge f max_edges)
    where
      zeros : (f < max_edges) ⊎ (max_edges ≤ f) → get_or {A = ℕ} (replicate max_edges 0) f 0 ≡ 0
      zeros (inl c) = get_or-replicate max_edges f 0 0 c
      zeros (inr c) = get_or-eq_default {A = ℕ} (replicate max_edges 0) 0 {n = f} (omega (arith, length-replicate {A = ℕ} max_edges 0))

  -- They are the tracks of a set of tracks below m.
  module _ (F : ℕ → Bool) (below : (f : ℕ) → f < m → t f ≡ F f) (past : (f : ℕ) → m ≤ f → F f ≡ false) where
    pub twos_chosen : chosen Kept all ≡ F
    unfolding chosen chosen_mark
    twos_chosen =
        fun_ext
        (λ f.
        ⊎_elim
        (λ b. ap (λ x. eqb x 2) (two_at f b) ∙ two_is_kept (t f) ∙ below f b)
        (λ b. ap (λ x. eqb x 2) (none_past f b) ∙ sym (past f b))
        (lt_or_ge f m))

    pub part_long : length (take (m - 0) all) ≡ m
    part_long = rw (sub-zero m) (length-take-le m all (omega (arith, twos_long)))

    pub part_picked : picked_in (take (m - 0) all) ≡ F
    unfolding picked_in
    part_picked =
        fun_ext
        (λ f.
        ⊎_elim
        (λ b.
        ap (λ k. not (eqb (get_or (take k all) f 0) 0)) (sub-zero m)
        ∙ ap (λ x. not (eqb x 0)) (get_or-take m all f 0 b ∙ two_at f b)
        ∙ two_or_none (t f) ∙ below f b)
        (λ b. ap (λ x. not (eqb x 0)) (get_or-eq_default (take (m - 0) all) 0 (subst (λ n. n ≤ f) (sym part_long) b)) ∙ sym (past f b))
        (lt_or_ge f m))

-- ---- one mark, as the code finds it

module _ (marks : List ℕ) (least out e : ℕ) where
  pub not_among : {x : ℕ} → x ≡ get_or marks e 0 → leb least x ≡ false → 0 ≡ counted (marked_but marks least out e) 2
  unfolding marked_but counted
  not_among is h = let k : leb least (get_or marks e 0) ≡ false = subst (λ x. leb least x ≡ false) is h in rw k

  pub left_out_law : e ≡ out → 0 ≡ counted (marked_but marks least out e) 2
  unfolding marked_but
  left_out_law h = sym (counted_false (not_true_false _ (λ k. true_not_false (not (eqb e out)) (and_right (leb least (get_or marks e 0)) _ k) (ap not (eq-eqb e out h)))) 2)

  pub marked_two : {x : ℕ} → x ≡ get_or marks e 0 → leb least x ≡ true → (e ≡ out → ⊥) → 2 ≡ counted (marked_but marks least out e) 2
  unfolding marked_but counted
  marked_two is h d = let k : leb least (get_or marks e 0) ≡ true = subst (λ x. leb least x ≡ true) is h in rw (k, ne_eqb e out d)

-- ---- the pair, as the code finds it

pub no_place : {v w : Verdict} → v ≡ w → v ≡ Fine → 0 ≡ place_of w
unfolding place_of
no_place is h = rw (sym is ∙ h)

pub the_place : {v w : Verdict} {number place : ℕ} → v ≡ w → v ≡ Refused number place → place ≡ place_of w
unfolding place_of
the_place is h = rw (sym is ∙ h)

pub pair_found : (s : Survey) (marks : List ℕ) {p : Pair} {labels : List ℕ}
    → p.group ≡ place_of (survey_refusal s before group_refusal s 0 (chosen Kept marks))
    → labels ≡ written (survey_refusal (survey_from s.groups s.firsts s.seconds s.weights))
    (labels_of (survey_from s.groups s.firsts s.seconds s.weights) (chosen Kept marks)) (replicate max_vertices 0)
    → p.smaller ≡ first_below (length s.groups) (in_list (lists_of s) p.group)
    → p.larger ≡ first_below (length s.groups) (λ v. in_list (lists_of s) p.group v && not (eqb (get_or labels p.smaller 0) (get_or labels v 0)))
    → PairOf s marks p
unfolding label_in
pair_found s marks {p} group labels_are smaller larger =
    record {
      group_is = group;
      smaller_is = smaller;
      larger_is =
          larger
          ∙ ap
          (λ (l : List ℕ). first_below (length s.groups) (λ v. in_list (lists_of s) p.group v && not (eqb (get_or l p.smaller 0) (get_or l v 0))))
          labels_are;
    }
