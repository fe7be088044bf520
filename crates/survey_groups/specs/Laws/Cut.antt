-- A cut separates a required pair exactly if some group is not joined where the labels are its two sides. The test of one cut uses it,
-- for refusal 12 and for pruning (source 001, section 22.1).
use Rattle.std.specs.Prelude.{ℕ, ◌<◌, ◌≤◌, ◌≡◌, ◌⊎◌, Bool, false, not, List, get_or}
use Rattle.std.proofs.Common.{arith, ap, ◌∙◌, inl, inr, ⊎_elim}
use Rattle.std.proofs.Math.Path.{sym}
use Rattle.std.proofs.Math.Bool.{true}
use Rattle.std.proofs.Math.ListN.{length}
use borrow.Author.Tests.{not-false}
use Rattle.base_finite.specs.Below.{counted, tabulate}
use Rattle.base_finite.specs.Laws.Below.{counted_true, counted_false, get_d_tabulate}
use Rattle.base_finite.specs.Laws.Test.{either, true_not_false, not_true_false}
use Rattle.base_limits.specs.Limits.{group_numbers}
use Rattle.base_limits.specs.Verdict.{refuse_if, lowest_below}
use Rattle.base_limits.specs.declared.Verdict.{Verdict}
use Rattle.base_limits.specs.declared.Verdict.TheVariants.{Fine, Refused}
use Rattle.base_limits.specs.Laws.Verdict.{no_refusal, refuse_false, fine_refuse, lowest_none, none_lowest}
use Rattle.theory_steiner.specs.Problem.{separates}
use Rattle.theory_steiner.proofs.Laws.Joined.{Split, separates_elim, separates_intro}
use Rattle.survey_core.specs.Survey.{Survey, vertex_count, member, problem_of, group_joined}
use Rattle.survey_core.specs.Sound.{ByteGroups}
use Rattle.survey_groups.specs.Spread.{Sides}
use Rattle.survey_core.proofs.Laws.Member.{labels_joined_elim, labels_joined_intro}
use Rattle.survey_core.proofs.Laws.Group.{Shared, same_group_shared, members_same_group, member_byte}

module _ (s : Survey) (S : ℕ → Bool) (label : ℕ → ℕ) (sided : (v : ℕ) → v < length s.groups → label v ≡ counted (S v) 1) where
  -- A pair on two sides has two labels.
  sides_differ : (u v : ℕ) → u < length s.groups → v < length s.groups → S u ≡ true → S v ≡ false → label u ≡ label v → ⊥
  sides_differ u v bu bv hu hv e = omega (arith, sided u bu, sided v bv, counted_true hu 1, counted_false hv 1)

  sides_agree : (u v : ℕ) → u < length s.groups → v < length s.groups → S u ≡ S v → label u ≡ label v
  sides_agree u v bu bv h = sided u bu ∙ ap (λ t. counted t 1) h ∙ sym (sided v bv)

  parted : (g u v : ℕ) → u < length s.groups → v < length s.groups → member s g u ≡ true → member s g v ≡ true → S u ≡ true → S v ≡ false
      → separates (problem_of s) S ≡ true
  unfolding problem_of vertex_count
  parted g u v bu bv mu mv hu hv =
      separates_intro
      (problem_of s)
      S
      (record {
        u = u;
        v = v;
        u_below = bu;
        v_below = bv;
        required = members_same_group s g u v mu mv;
        inside = hu;
        outside = hv;
      })

  whole_joined : separates (problem_of s) S ≡ false → (g : ℕ) → group_joined s label g ≡ true
  unfolding vertex_count
  whole_joined h g = labels_joined_intro s label g (λ u v bu bv mu mv. by u v bu bv mu mv (either (S u)) (either (S v)))
    where
      by : (u v : ℕ) → u < length s.groups → v < length s.groups → member s g u ≡ true → member s g v ≡ true → (S u ≡ true) ⊎ (S u ≡ false)
          → (S v ≡ true) ⊎ (S v ≡ false) → label u ≡ label v
      by u v bu bv mu mv (inl a) (inl b) = sides_agree u v bu bv (a ∙ sym b)
      by u v bu bv mu mv (inr a) (inr b) = sides_agree u v bu bv (a ∙ sym b)
      by u v bu bv mu mv (inl a) (inr b) = true_not_false (separates (problem_of s) S) (parted g u v bu bv mu mv a b) h
      by u v bu bv mu mv (inr a) (inl b) = true_not_false (separates (problem_of s) S) (parted g v u bv bu mv mu b a) h

  module _ (number : ℕ) where
    -- The lowest group that the sides part.
    abbrev parted_group : Verdict
    parted_group = lowest_below group_numbers (λ g. refuse_if (not (group_joined s label g)) number g)

    whole_fine : separates (problem_of s) S ≡ false → parted_group ≡ Fine
    whole_fine h =
        lowest_none
        group_numbers
        (λ g. refuse_if (not (group_joined s label g)) number g)
        (λ g b. refuse_false (ap not (whole_joined h g)) number g)

    fine_whole : ByteGroups s → parted_group ≡ Fine → separates (problem_of s) S ≡ true → ⊥
    unfolding problem_of vertex_count
    fine_whole numbered h k =
        let p : Split (problem_of s) S = separates_elim (problem_of s) S k in
        let x : Shared s p.u p.v = same_group_shared s p.u p.v p.required in
        let j : group_joined s label x.group ≡ true =
        not-false (group_joined s label x.group)
        (fine_refuse (not (group_joined s label x.group)) number x.group
        (none_lowest group_numbers (λ g. refuse_if (not (group_joined s label g)) number g) h x.group (member_byte s numbered x.group p.u x.first))) in
        sides_differ p.u p.v p.u_below p.v_below p.inside p.outside
        (labels_joined_elim s label x.group j p.u p.v p.u_below p.v_below x.first x.second)

    -- No group is parted.
    pub whole_separates_none : ByteGroups s → parted_group ≡ Fine → separates (problem_of s) S ≡ false
    whole_separates_none numbered h = not_true_false (separates (problem_of s) S) (fine_whole numbered h)

    -- Some group is.
    pub parted_separates : {other place : ℕ} → parted_group ≡ Refused other place → separates (problem_of s) S ≡ true
    parted_separates h =
        ⊎_elim
        (λ e. e)
        (λ e. absurd (no_refusal h (whole_fine e)))
        (either (separates (problem_of s) S))

-- A table of sides.
pub sides_table : (S : ℕ → Bool) (n N : ℕ) {labels : List ℕ} → n ≤ N → labels ≡ tabulate N (λ v. counted (S v) 1) → Sides S n labels
sides_table S n N fits h v b = ap (λ l. get_or l v 0) h ∙ get_d_tabulate N (λ v. counted (S v) 1) v 0 (omega arith)
