-- Planning with lists is planning with any groups that they are poured into (document 02, No. 2): where 18 does not come, the two problems separate
-- the same cuts, so they have one plan, and the same sets of tracks join both. A set S that parts A ∪ B has a member u of A inside and w of B
-- outside, or the other way round; x in both parts B if it is inside, and A if it is not.
use Rattle.std.specs.Prelude.{ℕ, ◌<◌, ◌≤◌, ◌≡◌, refl, ◌⊎◌, ◌↔◌, Bool, true, List}
use Rattle.std.proofs.Common.{arith, ap, sym, ◌∙◌, inl, inr}
use Rattle.std.proofs.Math.Path.{subst}
use Rattle.std.proofs.Math.ListN.{length, get_or, get_or-eq_default}
use Rattle.base_finite.specs.Laws.Below.{lt_or_ge}
use Rattle.base_limits.specs.Limits.{group_numbers}
use Rattle.survey_core.specs.Sound.{ByteGroups, SurveySound}
use Rattle.theory_steiner.specs.Problem.{Bounded, Joins, separates}
use Rattle.theory_steiner.specs.Requirement.{requiring, Chain, one, more, SamePlan}
use Rattle.theory_steiner.specs.Growth.{state_at}
use Rattle.theory_steiner.specs.Pruning.{kept}
use Rattle.theory_steiner.proofs.Laws.Required.{between_separates, state_same, kept_same, plan_same, joins_same}
use Rattle.survey_core.specs.Survey.{Survey, survey_from, lists_of, vertex_count, edge_count, member, same_group, problem_of}
use Rattle.survey_core.proofs.Laws.Member.{IsMember, member_elim, member_intro}
use Rattle.survey_core.proofs.Laws.Refusal.{same_group_symmetric}
use Rattle.survey_core.specs.Lists.{Lists, in_list}
use Rattle.survey_core.specs.Pairs.{PairsSound}
use Rattle.survey_lists.specs.Pouring.{Chained, same, shared, ChainLinked, IsPoured, PoursInto, poured_groups, poured_survey}
use Rattle.survey_core.proofs.Laws.Group.{Shared, same_group_shared, members_same_group, plain_same, plain_bytes}
use Rattle.survey_lists.proofs.Laws.Pouring.{poured_iff, length_poured, get_d_poured, poured_below, no_pairs_groups}

-- ---- any groups that the lists are poured into

module _ (s : Survey) {groups : List ℕ} (is_poured : IsPoured (lists_of s) groups) where
  abbrev l : Lists
  l = lists_of s

  abbrev into : Survey
  into = survey_from groups s.firsts s.seconds s.weights

  -- The poured survey's problem differs from that of the lists in what it requires alone.
  into_problem : problem_of (survey_from groups s.firsts s.seconds s.weights) ≡ requiring (problem_of s) (same_group (survey_from groups s.firsts s.seconds s.weights))
  unfolding problem_of vertex_count edge_count
  into_problem i =
      record {
        vertices = is_poured.long i;
        edges = length s.firsts;
        first = λ e. get_or s.firsts e 0;
        second = λ e. get_or s.seconds e 0;
        weight = λ e. get_or s.weights e 0;
        usable = λ e. true;
        required = same_group into;
      }

  -- A sound survey is sound when it is poured.
  pub into_sound : SurveySound s → SurveySound (survey_from groups s.firsts s.seconds s.weights)
  into_sound h =
      record {
        some = rw is_poured.long h.some;
        few = rw is_poured.long h.few;
        seconds_long = h.seconds_long;
        weights_long = h.weights_long;
        edges_few = h.edges_few;
        edges = λ e b.
            record {
              first_below_law = rw is_poured.long (h.edges e b).first_below_law;
              second_below = rw is_poured.long (h.edges e b).second_below;
              ends_differ = (h.edges e b).ends_differ;
              weight_le = (h.edges e b).weight_le;
            };
        pairs_long = refl;
        pairs = λ i b. absurd (omega arith);
      }

  -- A chain of lists is a chain of required pairs.
  required_chain : {g h : ℕ} → Chained l g h → (u v : ℕ) → u < length s.groups → v < length s.groups → in_list l g u ≡ true → in_list l h v ≡ true
      → Chain (problem_of s) u v
  unfolding problem_of vertex_count member
  required_chain (same {g}) u v bu bv mu mv = one bu bv (members_same_group s g u v mu mv)
  required_chain (shared {g} {k} {h} x b m n c) u v bu bv mu mv = more bu b (members_same_group s g u x mu m) (required_chain c x v b bv n mv)

  -- What a list requires the poured group does.
  low : (u v : ℕ) → u < length s.groups → v < length s.groups → same_group s u v ≡ true → same_group into u v ≡ true
  unfolding member
  low u v bu bv h =
      let b : Shared s u v = same_group_shared s u v h in
      let c : ChainLinked l u v = record { from = b.group; to = b.group; member_from = b.first; member_to = b.second; chain = same } in
      let p = is_poured.linked u v bu bv c in
      members_same_group into (get_or groups u 0) u v (member_intro into (get_or groups u 0) u p.1 refl)
      (member_intro into (get_or groups u 0) v p.1 (sym p.0))

  -- What the poured group requires a chain of lists does.
  high : (u v : ℕ) → u < length s.groups → v < length s.groups → same_group into u v ≡ true → Chain (problem_of s) u v
  high u v bu bv h =
      let m : IsMember into (get_or groups u 0) v = member_elim into refl (get_or groups u 0) v (sym (plain_same into refl u v) ∙ h) in
      let c : ChainLinked l u v = is_poured.together u v bu bv (sym m.same) m.some in
      required_chain c.chain u v bu bv c.member_from c.member_to

  separates_required : (S : ℕ → Bool) → separates (problem_of s) S ≡ separates (requiring (problem_of s) (same_group into)) S
  unfolding problem_of vertex_count
  separates_required S = between_separates (problem_of s) (same_group into) low high S

  -- The lists and the poured groups part the same cuts.
  pub into_separates : (S : ℕ → Bool) → separates (problem_of s) S ≡ separates (problem_of (survey_from groups s.firsts s.seconds s.weights)) S
  into_separates S = separates_required S ∙ ap (λ p. separates p S) (sym into_problem)

  -- They have one plan.
  pub into_plan : SamePlan (problem_of s) (problem_of (survey_from groups s.firsts s.seconds s.weights))
  unfolding problem_of
  into_plan =
      subst (λ p. SamePlan (problem_of s) p) (sym into_problem)
      (plan_same (problem_of s) (same_group into) separates_required (same_group_symmetric s) (same_group_symmetric into))

  -- Their growth is the same after every round, and so is what is kept.
  pub into_states : (k : ℕ) → state_at (problem_of s) k ≡ state_at (problem_of (survey_from groups s.firsts s.seconds s.weights)) k
  into_states k =
      subst (λ p. state_at (problem_of s) k ≡ state_at p k) (sym into_problem) (state_same (problem_of s) (same_group into) separates_required k)

  pub into_kept : kept (problem_of s) ≡ kept (problem_of (survey_from groups s.firsts s.seconds s.weights))
  into_kept = subst (λ p. kept (problem_of s) ≡ kept p) (sym into_problem) (kept_same (problem_of s) (same_group into) separates_required)

  -- The same sets of tracks join both.
  pub into_joins : (F : ℕ → Bool) → Bounded (problem_of s) F → Joins (problem_of s) F ↔ Joins (problem_of (survey_from groups s.firsts s.seconds s.weights)) F
  into_joins F bounded =
      subst (λ p. Joins (problem_of s) F ↔ Joins p F) (sym into_problem)
      (joins_same (problem_of s) (same_group into) separates_required F bounded)

-- ---- the groups that are computed

-- They are the lists poured together.
pub is_poured : (l : Lists) → PairsSound l → IsPoured l (poured_groups l)
is_poured l sound =
    record {
      long = length_poured l;
      together = λ u v bu bv e z. (poured_iff l sound u v).0 (sym (get_d_poured l u bu) ∙ e ∙ get_d_poured l v bv, λ k. z (get_d_poured l u bu ∙ k));
      linked = λ u v bu bv c.
          let p = (poured_iff l sound u v).1 c in
          (get_d_poured l u bu ∙ p.0 ∙ sym (get_d_poured l v bv), λ k. p.1 (sym (get_d_poured l u bu) ∙ k));
    }

pub poured_into : (s : Survey) → PairsSound (lists_of s) → PoursInto s (poured_survey s)
poured_into s sound = record { tracks = refl; groups = is_poured (lists_of s) sound }

module _ (s : Survey) where
  -- Poured groups are bytes.
  pub poured_bytes : ByteGroups s → ByteGroups (poured_survey s)
  poured_bytes numbered = plain_bytes (poured_groups (lists_of s)) s.firsts s.seconds s.weights (λ v. by v (lt_or_ge v (length s.groups)))
    where
      by : (v : ℕ) → (v < length s.groups) ⊎ (length s.groups ≤ v) → get_or (poured_groups (lists_of s)) v 0 < group_numbers
      by v (inl b) = rw (get_d_poured (lists_of s) v b) (poured_below (lists_of s) numbered.own_byte numbered.other_byte v)
      by v (inr b) = rw (get_or-eq_default (poured_groups (lists_of s)) 0 {n = v} (rw (length_poured (lists_of s)) b)) (omega arith)

  pub poured_sound : SurveySound s → SurveySound (poured_survey s)
  poured_sound h = into_sound s (is_poured (lists_of s) h.pairs) h

  module _ (sound : PairsSound (lists_of s)) where
    pub poured_separates : (S : ℕ → Bool) → separates (problem_of s) S ≡ separates (problem_of (poured_survey s)) S
    poured_separates = into_separates s (is_poured (lists_of s) sound)

    pub poured_plan : SamePlan (problem_of s) (problem_of (poured_survey s))
    poured_plan = into_plan s (is_poured (lists_of s) sound)

    pub poured_states : (k : ℕ) → state_at (problem_of s) k ≡ state_at (problem_of (poured_survey s)) k
    poured_states = into_states s (is_poured (lists_of s) sound)

    pub poured_kept : kept (problem_of s) ≡ kept (problem_of (poured_survey s))
    poured_kept = into_kept s (is_poured (lists_of s) sound)

    pub poured_joins : (F : ℕ → Bool) → Bounded (problem_of s) F → Joins (problem_of s) F ↔ Joins (problem_of (poured_survey s)) F
    poured_joins = into_joins s (is_poured (lists_of s) sound)

-- Without pairs the survey is what it was.
pub no_pairs_survey : (groups firsts seconds weights : List ℕ) → poured_survey (survey_from groups firsts seconds weights) ≡ survey_from groups firsts seconds weights
no_pairs_survey groups firsts seconds weights = ap (λ (g : List ℕ). survey_from g firsts seconds weights) (no_pairs_groups groups)
