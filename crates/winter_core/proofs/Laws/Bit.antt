-- The survey of a bit has the members of the groups with that bit, and no others; so its problem is that of the bit (document 02, No. 13).
use Rattle.std.specs.Prelude.{ℕ, ◌<◌, ◌≤◌, ◌≡◌, ◌⊎◌, Bool, true, false, ◌&&◌, List}
use Rattle.std.proofs.Math.Path.{ap, sym}
use Rattle.std.proofs.Common.{◌∙◌, subst, inl, inr, ⊎_elim}
use Rattle.std.proofs.Math.Bool.{cond}
use Rattle.std.proofs.Math.ListN.{length, get_or, get_or-eq_default}
use Rattle.base_finite.specs.Below.{count_below, tabulate}
use Rattle.base_finite.specs.Laws.Test.{either, and_left, and_right, and_both, same_test_law}
use Rattle.base_finite.specs.Laws.Below.{lt_or_ge, length_tabulate, get_d_tabulate}
use Rattle.theory_steiner.specs.Problem.{Problem, Joins, all_usable}
use Rattle.theory_steiner.specs.Strength.{required_at, bit_problem}
use Rattle.theory_steiner.proofs.Laws.Strength.{SharesBit, required_at_elim, required_at_intro, bit_joinable}
use Rattle.survey_core.specs.Survey.{Survey, lists_of, vertex_count, edge_count, member, same_group, problem_of}
use Rattle.survey_core.specs.Sound.{ByteGroups}
use Rattle.survey_core.proofs.Laws.Lists.{Listed, by_own, by_pair, in_list_some, in_list_elim, in_list_intro}
use Rattle.survey_core.proofs.Laws.Group.{Shared, same_group_shared, members_same_group, member_byte}
use Rattle.winter_rule.specs.Winter.{strengths_of}
use Rattle.winter_rule.proofs.Laws.Copies.{survey_asks}
use Rattle.winter_core.specs.Bit.{carries, bit_group, passing, pair_carries, bit_survey}
use Rattle.winter_core.proofs.Laws.Passing.{Source, length_passing, count_strict, passing_at, source}

module _ (strengths : List ℕ) (b : ℕ) where
  pub group_carried : (g : ℕ) → carries strengths b g ≡ true → bit_group strengths b g ≡ g
  unfolding bit_group
  group_carried g h = ap (λ (t : Bool). cond t g 0) h

  pub group_lacking : (g : ℕ) → carries strengths b g ≡ false → bit_group strengths b g ≡ 0
  unfolding bit_group
  group_lacking g h = ap (λ (t : Bool). cond t g 0) h

  group_none : bit_group strengths b 0 ≡ 0
  group_none = ⊎_elim (group_carried 0) (group_lacking 0) (either (carries strengths b 0))

  -- The own group of v, filtered.
  pub own_at : (groups : List ℕ) (v : ℕ) → get_or (tabulate (length groups) (λ v. bit_group strengths b (get_or groups v 0))) v 0 ≡ bit_group strengths b (get_or groups v 0)
  own_at groups v =
      ⊎_elim
      (λ c. get_d_tabulate (length groups) (λ v. bit_group strengths b (get_or groups v 0)) v 0 c)
      (λ c.
      get_or-eq_default (tabulate (length groups) (λ v. bit_group strengths b (get_or groups v 0))) 0
      (subst (λ n. n ≤ v) (sym (length_tabulate (length groups) (λ v. bit_group strengths b (get_or groups v 0)))) c)
      ∙ sym (ap (bit_group strengths b) (get_or-eq_default groups 0 c) ∙ group_none))
      (lt_or_ge v (length groups))

module _ (s : Survey) (strengths : List ℕ) (b : ℕ) where
  abbrev n : ℕ
  n = length s.owners

  abbrev test : ℕ → Bool
  test = pair_carries strengths s.others b

  -- The place that pair j of the bit's survey comes from.
  pub pair_source : (j : ℕ) → j < length (bit_survey s strengths b).owners → Source test n j
  pair_source j h = source test n j (subst (λ k. j < k) (length_passing test s.owners n) h)

  pub owner_from : {j : ℕ} (f : Source test n j) → get_or (bit_survey s strengths b).owners j 0 ≡ get_or s.owners f.at 0
  owner_from f =
      ap (λ k. get_or (passing test s.owners n) k 0) (sym f.rank) ∙ passing_at test s.owners n f.at f.below f.passes

  pub other_from : {j : ℕ} (f : Source test n j) → get_or (bit_survey s strengths b).others j 0 ≡ get_or s.others f.at 0
  other_from f =
      ap (λ k. get_or (passing test s.others n) k 0) (sym f.rank) ∙ passing_at test s.others n f.at f.below f.passes

  -- ---- members

  listed_carried : (g v : ℕ) → (g ≡ 0 → ⊥) → Listed (lists_of (bit_survey s strengths b)) g v → (carries strengths b g ≡ true) × Listed (lists_of s) g v
  listed_carried g v some (by_own e) = by (either (carries strengths b (get_or s.groups v 0)))
    where
      from : bit_group strengths b (get_or s.groups v 0) ≡ g
      from = sym (own_at strengths b s.groups v) ∙ e

      by : (carries strengths b (get_or s.groups v 0) ≡ true) ⊎ (carries strengths b (get_or s.groups v 0) ≡ false)
          → (carries strengths b g ≡ true) × Listed (lists_of s) g v
      by (inl h) =
          let same : get_or s.groups v 0 ≡ g = sym (group_carried strengths b (get_or s.groups v 0) h) ∙ from in
          (subst (λ x. carries strengths b x ≡ true) same h, by_own same)
      by (inr h) = absurd (some (sym from ∙ group_lacking strengths b (get_or s.groups v 0) h))
  listed_carried g v some (by_pair p) =
      let f : Source test n p.at = pair_source p.at p.below in
      let owned : get_or s.owners f.at 0 ≡ v = sym (owner_from f) ∙ p.owner_is in
      let same : get_or s.others f.at 0 ≡ g = sym (other_from f) ∙ p.other_is in (
        subst (λ x. carries strengths b x ≡ true) same f.passes,
        by_pair (record { at = f.at; below = f.below; owner_is = owned; other_is = same }),
      )

  carried_listed : (g v : ℕ) → carries strengths b g ≡ true → Listed (lists_of s) g v → Listed (lists_of (bit_survey s strengths b)) g v
  carried_listed g v h (by_own e) =
      by_own (own_at strengths b s.groups v ∙ ap (bit_group strengths b) e ∙ group_carried strengths b g h)
  carried_listed g v h (by_pair p) =
      let passes : test p.at ≡ true = subst (λ x. carries strengths b x ≡ true) (sym p.other_is) h in
      by_pair
      (record {
        at = count_below p.at test;
        below = subst (λ k. count_below p.at test < k) (sym (length_passing test s.owners n)) (count_strict test p.at n p.below passes);
        owner_is = passing_at test s.owners n p.at p.below passes ∙ p.owner_is;
        other_is = passing_at test s.others n p.at p.below passes ∙ p.other_is;
      })

  -- The members of the groups with the bit.
  pub bit_member : (g v : ℕ) → member (bit_survey s strengths b) g v ≡ (carries strengths b g && member s g v)
  unfolding member
  bit_member g v =
      same_test_law (member (bit_survey s strengths b) g v) (carries strengths b g && member s g v)
      (λ h.
      let some = in_list_some (lists_of (bit_survey s strengths b)) g v h in
      let w = listed_carried g v some (in_list_elim (lists_of (bit_survey s strengths b)) g v h) in
      and_both (carries strengths b g) (member s g v) w.0 (in_list_intro (lists_of s) g v some w.1))
      (λ h.
      let m = and_right (carries strengths b g) (member s g v) h in
      in_list_intro (lists_of (bit_survey s strengths b)) g v (in_list_some (lists_of s) g v m)
      (carried_listed g v (and_left (carries strengths b g) (member s g v) h) (in_list_elim (lists_of s) g v m)))

  -- ---- the problem

  module _ (numbered : ByteGroups s) where
    bit_required : (u v : ℕ) → same_group (bit_survey s strengths b) u v ≡ required_at (strengths_of s strengths) b u v
    unfolding carries
    bit_required u v =
        same_test_law (same_group (bit_survey s strengths b) u v) (required_at (strengths_of s strengths) b u v)
        (λ h.
        let w : Shared (bit_survey s strengths b) u v = same_group_shared (bit_survey s strengths b) u v h in
        let one = sym (bit_member w.group u) ∙ w.first in
        let two = sym (bit_member w.group v) ∙ w.second in
        required_at_intro (strengths_of s strengths) b u v
        (record {
          group = w.group;
          below = member_byte s numbered w.group u (and_right (carries strengths b w.group) (member s w.group u) one);
          bit = and_left (carries strengths b w.group) (member s w.group u) one;
          first_member = and_right (carries strengths b w.group) (member s w.group u) one;
          second_member = and_right (carries strengths b w.group) (member s w.group v) two;
        }))
        (λ h.
        let w : SharesBit (strengths_of s strengths) b u v = required_at_elim (strengths_of s strengths) b u v h in
        members_same_group (bit_survey s strengths b) w.group u v
        (bit_member w.group u ∙ and_both (carries strengths b w.group) (member s w.group u) w.bit w.first_member)
        (bit_member w.group v ∙ and_both (carries strengths b w.group) (member s w.group v) w.bit w.second_member))

    pub bit_survey_problem : problem_of (bit_survey s strengths b) ≡ bit_problem (problem_of s) (strengths_of s strengths) b
    unfolding problem_of vertex_count edge_count
    bit_survey_problem i =
        record {
          vertices = length_tabulate (length s.groups) (λ v. bit_group strengths b (get_or s.groups v 0)) i;
          edges = length s.firsts;
          first = λ e. get_or s.firsts e 0;
          second = λ e. get_or s.seconds e 0;
          weight = λ e. get_or s.weights e 0;
          usable = λ e. true;
          required = λ u v. bit_required u v i;
        }

    -- If all tracks join every group, they join those of a bit: 8 never comes of a bit's survey.
    pub bit_survey_joinable : Joins (problem_of s) (all_usable (problem_of s))
        → Joins (problem_of (bit_survey s strengths b)) (all_usable (problem_of (bit_survey s strengths b)))
    bit_survey_joinable joinable =
        subst (λ (p : Problem). Joins p (all_usable p)) (sym bit_survey_problem)
        (bit_joinable (problem_of s) (strengths_of s strengths) (survey_asks s strengths) joinable b)
