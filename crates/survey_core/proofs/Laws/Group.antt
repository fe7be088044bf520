-- Groups: what it is that a set of tracks joins a group, by paths; the lowest group that is not joined; and a group cannot be joined by all tracks
-- exactly if no set of tracks joins it (document 01, 'The survey and the plan'; refusals 8 and 14).
use Rattle.std.specs.Prelude.{ℕ, ◌<◌, ◌≡◌, refl, ◌↔◌, [], List, Bool, true, false, not, get_or}
use Rattle.std.proofs.Math.Path.{sym, subst}
use Rattle.std.proofs.Common.{arith}
use Rattle.std.proofs.lemmas.Bool.{not-true, not-false}
use Rattle.base_finite.specs.Laws.Test.{true_not_false, same_test_law}
use Rattle.theory_graph.proofs.Laws.Linked.{linked_mono}
use Rattle.base_limits.specs.Limits.{group_numbers}
use Rattle.base_limits.specs.Verdict.{refuse_if}
use Rattle.base_limits.specs.declared.Verdict.TheVariants.{Fine, Refused}
use Rattle.base_limits.specs.Laws.Verdict.{lowest_none, none_lowest, refuse_false, fine_refuse, Lowest, lowest_elim, refused_refuse}
use Rattle.theory_steiner.specs.Problem.{EdgeSet, Joins, all_usable, Bounded}
use Rattle.theory_steiner.proofs.Laws.Joined.{label_linked, linked_label}
use Rattle.theory_steiner.proofs.Laws.Finish.{all_usable_all, all_usable_edges}
use Rattle.survey_core.specs.Survey.{Survey, survey_from, lists_of, member, same_group, problem_of, JoinsGroup, group_joined, components_of}
use Rattle.survey_core.specs.Sound.{ByteGroups}
use Rattle.survey_core.specs.Refusal.{group_refusal, LowestUnjoined}
use Rattle.survey_core.proofs.Laws.Lists.{Listed, by_own, by_pair, in_list_elim, Both, same_list_elim, same_list_intro}
use Rattle.survey_core.proofs.Laws.Member.{member_elim, member_intro, labels_joined_elim, labels_joined_intro}

-- A group that two vertices share.
pub record Shared (s : Survey) (u v : ℕ) : Type 0 where
  pub group : ℕ
  pub first : member s group u ≡ true
  pub second : member s group v ≡ true

-- Two vertices share a group exactly if they are members of one.
pub same_group_shared : (s : Survey) (u v : ℕ) → same_group s u v ≡ true → Shared s u v
unfolding same_group member
same_group_shared s u v h = let b : Both (lists_of s) u v = same_list_elim (lists_of s) u v h in record { group = b.list; first = b.first; second = b.second }

pub members_same_group : (s : Survey) (g u v : ℕ) → member s g u ≡ true → member s g v ≡ true → same_group s u v ≡ true
unfolding same_group member
members_same_group s g u v h k = same_list_intro (lists_of s) g u v h k

-- A group with a member has a number that fits a byte.
pub member_byte : (s : Survey) → ByteGroups s → (g v : ℕ) → member s g v ≡ true → g < group_numbers
unfolding member
member_byte s numbered g v h = by (in_list_elim (lists_of s) g v h)
  where
    by : Listed (lists_of s) g v → g < group_numbers
    by (by_own e) = subst (λ x. x < group_numbers) e (numbered.own_byte v)
    by (by_pair p) = subst (λ x. x < group_numbers) p.other_is (numbered.other_byte p.at)

-- Without pairs the own group of one decides.
pub plain_same : (s : Survey) → s.owners ≡ [] → (u v : ℕ) → same_group s u v ≡ member s (get_or s.groups u 0) v
plain_same s plain u v =
    same_test_law (same_group s u v) (member s (get_or s.groups u 0) v)
    (λ h.
    let x : Shared s u v = same_group_shared s u v h in
    subst (λ g. member s g v ≡ true) (sym (member_elim s plain x.group u x.first).same) x.second)
    (λ h.
    members_same_group s (get_or s.groups u 0) u v
    (member_intro s (get_or s.groups u 0) u (member_elim s plain (get_or s.groups u 0) v h).some refl) h)

-- Without pairs the own groups are all that has to fit.
pub plain_bytes : (groups firsts seconds weights : List ℕ) → ((v : ℕ) → get_or groups v 0 < group_numbers) → ByteGroups (survey_from groups firsts seconds weights)
plain_bytes groups firsts seconds weights h = record { own_byte = h; other_byte = λ i. let z : get_or {A = ℕ} [] i 0 ≡ 0 = refl in omega arith }

-- To join every required pair is to join every group.
pub joins_groups : (s : Survey) (F : ℕ → Bool) → Joins (problem_of s) F → (g : ℕ) → JoinsGroup s F g
unfolding problem_of
joins_groups s F h g u v bu bv mu mv = h u v bu bv (members_same_group s g u v mu mv)

pub groups_join : (s : Survey) (F : ℕ → Bool) → ByteGroups s → ((g : ℕ) → g < group_numbers → JoinsGroup s F g) → Joins (problem_of s) F
unfolding problem_of
groups_join s F numbered h u v bu bv r =
    let x : Shared s u v = same_group_shared s u v r in
    h x.group (member_byte s numbered x.group u x.first) u v bu bv x.first x.second

-- ---- the test of one group

pub group_joined_elim : (s : Survey) (F : ℕ → Bool) (g : ℕ) → group_joined s (components_of s F) g ≡ true → JoinsGroup s F g
unfolding components_of problem_of
group_joined_elim s F g h u v bu bv mu mv = label_linked (problem_of s) F u v (labels_joined_elim s (components_of s F) g h u v bu bv mu mv)

pub group_joined_intro : (s : Survey) (F : ℕ → Bool) → Bounded (problem_of s) F → (g : ℕ) → JoinsGroup s F g → group_joined s (components_of s F) g ≡ true
unfolding components_of problem_of
group_joined_intro s F bounded g h =
    labels_joined_intro s (components_of s F) g (λ u v bu bv mu mv. linked_label (problem_of s) F bounded u v (h u v bu bv mu mv))

-- ---- the lowest group that is not joined

module _ (s : Survey) (number : ℕ) (F : ℕ → Bool) (bounded : Bounded (problem_of s) F) where
  -- No finding exactly if every required pair has a path.
  pub group_fine : ByteGroups s → group_refusal s number F ≡ Fine → Joins (problem_of s) F
  unfolding group_refusal
  group_fine numbered h =
      groups_join s F numbered
      (λ g b.
      group_joined_elim s F g
      (not-false (group_joined s (components_of s F) g) (fine_refuse (not (group_joined s (components_of s F) g)) number g (none_lowest group_numbers _ h g b))))

  pub joins_fine : Joins (problem_of s) F → group_refusal s number F ≡ Fine
  unfolding group_refusal
  joins_fine h =
      lowest_none group_numbers _
      (λ g b.
      refuse_false
      (rw (group_joined_intro s F bounded g (joins_groups s F h g))) number g)

  -- The finding is that group.
  pub group_refused : (k g : ℕ) → group_refusal s number F ≡ Refused k g → (k ≡ number) × LowestUnjoined s F g
  unfolding group_refusal
  group_refused k g h =
      let l : Lowest group_numbers (λ g. refuse_if (not (group_joined s (components_of s F) g)) number g) k g = lowest_elim group_numbers _ k g h in
      let r = refused_refuse (not (group_joined s (components_of s F) l.at)) number l.at k g l.found in
      let at : l.at ≡ g = r.1.1 in (
        sym r.1.0,
        record {
          below = subst (λ x. x < group_numbers) at l.below;
          unjoined = λ j.
              true_not_false (group_joined s (components_of s F) g) (group_joined_intro s F bounded g j)
              (subst (λ x. group_joined s (components_of s F) x ≡ false) at (not-true (group_joined s (components_of s F) l.at) r.0));
          lower = λ i b.
              group_joined_elim s F i
              (not-false (group_joined s (components_of s F) i)
              (fine_refuse (not (group_joined s (components_of s F) i)) number i (l.none_before i (subst (λ x. i < x) (sym at) b))));
        },
      )

-- A group is unjoinable by all tracks exactly if no set of tracks joins it.
pub unjoinable_iff : (s : Survey) (g : ℕ) →
    (JoinsGroup s (all_usable (problem_of s)) g → ⊥) ↔ ((F : ℕ → Bool) → EdgeSet (problem_of s) F → JoinsGroup s F g → ⊥)
unjoinable_iff s g = (
  λ none F set h. none (λ u v bu bv mu mv. linked_mono (all_usable_all (problem_of s) F set) (h u v bu bv mu mv)),
  λ none h. none (all_usable (problem_of s)) (all_usable_edges (problem_of s)) h,
)
