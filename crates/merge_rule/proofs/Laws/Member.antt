-- Who belongs where in the result (document 02, No. 9): each junction to the groups of the junctions that stand there, and to no other.
use Rattle.std.specs.Prelude.{ℕ, ◌+◌, ◌*◌, ◌<◌, ◌≤◌, ◌≡◌, Bool, ◌&&◌, ◌||◌, length, eqb}
use native.Mathlib.Omega.{arith}
use Rattle.std.proofs.Math.Decide.{ℕ_discrete}
use Rattle.std.proofs.Math.Path.{ap, sym}
use Rattle.std.proofs.Common.{◌∙◌}
use Rattle.std.proofs.Math.Logic.{⊎_elim}
use Rattle.std.proofs.Math.Bool.{true, false, cond, not, or-false}
use Rattle.std.proofs.Math.ListN.{get_or, length-map, get_or-map, get_or-eq_default}
use borrow.Author.Tests.{eq-eqb, ne_eqb, eqb-true, eqb-false, not-true}
use Rattle.base_finite.specs.Laws.Below.{any_intro, any_elim, Found, length_tabulate, get_d_tabulate}
use Rattle.base_finite.specs.Laws.Test.{and_left, and_right, and_both, or_cases, or_left, or_right, not_of_false, not_true_false, same_test_law}
use Rattle.base_limits.specs.Limits.{group_numbers}
use Rattle.survey_core.specs.Survey.{Survey, lists_of, vertex_count, member}
use Rattle.survey_core.specs.Lists.{Lists, owner, other, is_paired}
use Rattle.survey_core.specs.Sound.{ByteGroups, SurveySound}
use Rattle.survey_core.proofs.Laws.Lists.{PairAt, Listed, by_own, by_pair, in_list_some, in_list_elim, in_list_intro}
use Rattle.survey_core.proofs.Laws.Member.{member_intro}
use Rattle.survey_core.proofs.Laws.Group.{member_byte}
use Rattle.merge_rule.specs.Ties.{Ties, is_tied, placed, merged_count, standing_at}
use Rattle.merge_rule.specs.Merged.{merged_vertices, second_at, own_at, belongs, is_further, pair_vertex, pair_group, merged_pairs, merged}
use Rattle.merge_rule.specs.Sound.{TiesSound}
use Rattle.merge_rule.proofs.Laws.Those.{At, Chosen, those_chosen}
use Rattle.merge_rule.proofs.Laws.Placed.{placed_below, untied_behind, standing_placed, standing_tied, standing_none}

-- Past a sound survey's last junction nobody belongs anywhere.
pub member_past : (s : Survey) → SurveySound s → (g v : ℕ) → length s.groups ≤ v → member s g v ≡ false
unfolding member
member_past s ok g v past = not_true_false (member s g v) (λ h. by (in_list_some (lists_of s) g v h) (in_list_elim (lists_of s) g v h))
  where
    by : (g ≡ 0 → ⊥) → Listed (lists_of s) g v → ⊥
    by some (by_own e) = some (sym e ∙ get_or-eq_default s.groups 0 past)
    by some (by_pair p) = omega (arith, (ok.pairs p.at p.below).below, p.owner_is)

-- Some pair is (v, g), taken apart and made.
module _ (l : Lists) (g v : ℕ) where
  abbrev is_pair : ℕ → Bool
  is_pair i = eqb (owner l i) v && eqb (other l i) g

  paired_elim : is_paired l g v ≡ true → PairAt l g v
  unfolding is_paired
  paired_elim h =
      let f : Found (length l.owners) is_pair = any_elim (length l.owners) is_pair h in
      record {
        at = f.at;
        below = f.below;
        owner_is = eqb-true (owner l f.at) v (and_left (eqb (owner l f.at) v) (eqb (other l f.at) g) f.passes);
        other_is = eqb-true (other l f.at) g (and_right (eqb (owner l f.at) v) (eqb (other l f.at) g) f.passes);
      }

  paired_intro : PairAt l g v → is_paired l g v ≡ true
  unfolding is_paired
  paired_intro p =
      any_intro (length l.owners) is_pair p.at p.below
      (and_both (eqb (owner l p.at) v) (eqb (other l p.at) g) (eq-eqb (owner l p.at) v p.owner_is) (eq-eqb (other l p.at) g p.other_is))

-- A pair as one number, taken apart.
pub split_vertex : (g w : ℕ) → g < group_numbers → pair_vertex (w * group_numbers + g) ≡ w
split_vertex g w h = omega arith

pub split_group : (g w : ℕ) → g < group_numbers → pair_group (w * group_numbers + g) ≡ g
split_group g w h = omega arith

module _ (a b : Survey) (ties : Ties) where
  -- ---- the two numbers that a place has

  pub merged_vertices_law : length (merged a b ties).groups ≡ merged_vertices a b ties
  unfolding merged
  merged_vertices_law = length_tabulate (merged_vertices a b ties) (own_at a b ties)

  pub merged_own : (w : ℕ) → w < merged_vertices a b ties → get_or (merged a b ties).groups w 0 ≡ own_at a b ties w
  unfolding merged
  merged_own w h = get_d_tabulate (merged_vertices a b ties) (own_at a b ties) w 0 h

  -- ---- pairs

  pub pairs_count : length (merged a b ties).owners ≡ length (merged_pairs a b ties)
  unfolding merged
  pairs_count = length-map (merged_pairs a b ties) pair_vertex

  pub pairs_even : length (merged a b ties).others ≡ length (merged_pairs a b ties)
  unfolding merged
  pairs_even = length-map (merged_pairs a b ties) pair_group

  pub merged_owner : (i : ℕ) → get_or (merged a b ties).owners i 0 ≡ pair_vertex (get_or (merged_pairs a b ties) i 0)
  unfolding merged
  merged_owner i = get_or-map pair_vertex (merged_pairs a b ties) i 0

  pub merged_other : (i : ℕ) → get_or (merged a b ties).others i 0 ≡ pair_group (get_or (merged_pairs a b ties) i 0)
  unfolding merged
  merged_other i = get_or-map pair_group (merged_pairs a b ties) i 0

  pub pairs_chosen : Chosen (merged_vertices a b ties * group_numbers) (λ c. is_further a b ties (pair_group c) (pair_vertex c)) (merged_pairs a b ties)
  unfolding merged_pairs
  pairs_chosen = those_chosen (merged_vertices a b ties * group_numbers) (λ c. is_further a b ties (pair_group c) (pair_vertex c))

  -- ---- belonging

  pub belongs_some : (g w : ℕ) → belongs a b ties g w ≡ true → g ≡ 0 → ⊥
  unfolding belongs member
  belongs_some g w h =
      ⊎_elim (in_list_some (lists_of a) g w) (in_list_some (lists_of b) g (second_at a b ties w)) (or_cases (member a g w) (member b g (second_at a b ties w)) h)

  pub belongs_byte : ByteGroups a → ByteGroups b → (g w : ℕ) → belongs a b ties g w ≡ true → g < group_numbers
  unfolding belongs
  belongs_byte ga gb g w h =
      ⊎_elim (member_byte a ga g w) (member_byte b gb g (second_at a b ties w)) (or_cases (member a g w) (member b g (second_at a b ties w)) h)

  -- A place belongs to its own group.
  pub own_belongs : (g w : ℕ) → (g ≡ 0 → ⊥) → own_at a b ties w ≡ g → belongs a b ties g w ≡ true
  unfolding belongs own_at
  own_belongs g w some e = by (eqb (get_or a.groups w 0) 0) e
    where
      by : (t : Bool) → cond t (get_or b.groups (second_at a b ties w) 0) (get_or a.groups w 0) ≡ g → (member a g w || member b g (second_at a b ties w)) ≡ true
      by true k = or_right (member a g w) (member b g (second_at a b ties w)) (member_intro b g (second_at a b ties w) some k)
      by false k = or_left (member a g w) (member b g (second_at a b ties w)) (member_intro a g w some k)

  -- A further group is one that the place belongs to, and not its own.
  pub further_elim : (g w : ℕ) → is_further a b ties g w ≡ true → (belongs a b ties g w ≡ true) × (g ≡ own_at a b ties w → ⊥)
  unfolding is_further
  further_elim g w h = (
    and_left (belongs a b ties g w) (not (eqb g (own_at a b ties w))) h,
    eqb-false g (own_at a b ties w) (not-true (eqb g (own_at a b ties w)) (and_right (belongs a b ties g w) (not (eqb g (own_at a b ties w))) h)),
  )

  pub further_intro : (g w : ℕ) → belongs a b ties g w ≡ true → (g ≡ own_at a b ties w → ⊥) → is_further a b ties g w ≡ true
  unfolding is_further
  further_intro g w h other =
      and_both (belongs a b ties g w) (not (eqb g (own_at a b ties w))) h (not_of_false (eqb g (own_at a b ties w)) (ne_eqb g (own_at a b ties w) other))

  -- ---- members of the result

  pair_further : (g w : ℕ) → PairAt (lists_of (merged a b ties)) g w → is_further a b ties g w ≡ true
  pair_further g w p =
      let c = get_or (merged_pairs a b ties) p.at 0 in
      let v_is : pair_vertex c ≡ w = sym (merged_owner p.at) ∙ p.owner_is in
      let g_is : pair_group c ≡ g = sym (merged_other p.at) ∙ p.other_is in
      let b : p.at < length (merged_pairs a b ties) = let x = p.below in let y = pairs_count in omega arith in
      rw (← v_is, ← g_is) (pairs_chosen.passes p.at b)

  pub merged_elim : (g w : ℕ) → w < merged_vertices a b ties → member (merged a b ties) g w ≡ true → belongs a b ties g w ≡ true
  unfolding member
  merged_elim g w bw h = by (in_list_some (lists_of (merged a b ties)) g w h) (in_list_elim (lists_of (merged a b ties)) g w h)
    where
      by : (g ≡ 0 → ⊥) → Listed (lists_of (merged a b ties)) g w → belongs a b ties g w ≡ true
      by some (by_own e) = own_belongs g w some (sym (merged_own w bw) ∙ e)
      by some (by_pair p) = (further_elim g w (pair_further g w p)).0

  -- A pair that stands among the result's, and what it says.
  pair_of : (g w : ℕ) {c : ℕ} → At (merged_pairs a b ties) c → pair_vertex c ≡ w → pair_group c ≡ g → PairAt (lists_of (merged a b ties)) g w
  pair_of g w x v_is g_is =
      record {
        at = x.at;
        below = let y = x.below in let z = pairs_count in omega arith;
        owner_is = merged_owner x.at ∙ ap pair_vertex x.is ∙ v_is;
        other_is = merged_other x.at ∙ ap pair_group x.is ∙ g_is;
      }

  -- The pair of a further group.
  further_pair : (g w : ℕ) → g < group_numbers → w < merged_vertices a b ties → is_further a b ties g w ≡ true → PairAt (lists_of (merged a b ties)) g w
  further_pair g w bg bw h =
      pair_of g w (pairs_chosen.each (w * group_numbers + g) (omega arith) (rw (split_vertex g w bg, split_group g w bg) h)) (split_vertex g w bg) (split_group g w bg)

  pub merged_intro : (g w : ℕ) → g < group_numbers → w < merged_vertices a b ties → belongs a b ties g w ≡ true → member (merged a b ties) g w ≡ true
  unfolding member
  merged_intro g w bg bw h = in_list_intro (lists_of (merged a b ties)) g w (belongs_some g w h) (by (ℕ_discrete g (own_at a b ties w)))
    where
      by : Dec (g ≡ own_at a b ties w) → Listed (lists_of (merged a b ties)) g w
      by (yes e) = by_own (merged_own w bw ∙ sym e)
      by (no d) = by_pair (further_pair g w bg bw (further_intro g w h d))

  -- 'every other is a pair': (w, g) is one exactly if w belongs to g and g is not its own.
  pub paired_merged : ByteGroups a → ByteGroups b → (g w : ℕ) → w < merged_vertices a b ties → is_paired (lists_of (merged a b ties)) g w ≡ is_further a b ties g w
  paired_merged ga gb g w bw =
      same_test_law (is_paired (lists_of (merged a b ties)) g w) (is_further a b ties g w)
      (λ h. pair_further g w (paired_elim (lists_of (merged a b ties)) g w h))
      (λ h. paired_intro (lists_of (merged a b ties)) g w (further_pair g w (belongs_byte ga gb g w (further_elim g w h).0) bw h))

  -- A junction of the result has just the memberships of the junctions that stand there.
  pub member_merged : ByteGroups a → ByteGroups b → (g w : ℕ) → w < merged_vertices a b ties → member (merged a b ties) g w ≡ belongs a b ties g w
  member_merged ga gb g w bw =
      same_test_law (member (merged a b ties) g w) (belongs a b ties g w)
      (merged_elim g w bw)
      (λ h. merged_intro g w (belongs_byte ga gb g w h) bw h)

-- Both surveys and the ties are sound, and groups are bytes.
module _ (a b : Survey) (ties : Ties) (first_sound : SurveySound a) (second_sound : SurveySound b)
    (ties_sound : TiesSound (length a.groups) (length b.groups) ties) (first_bytes : ByteGroups a) (second_bytes : ByteGroups b)
  where
    below_merged : (u : ℕ) → u < length a.groups → u < merged_vertices a b ties
    unfolding merged_vertices merged_count vertex_count
    below_merged u h = omega arith

    -- A place with the junction v of the second.
    stands : (g w v : ℕ) → w < merged_vertices a b ties → standing_at (length a.groups) (length b.groups) ties w ≡ v
        → member (merged a b ties) g w ≡ (member a g w || member b g v)
    unfolding belongs second_at vertex_count
    stands g w v bw is = member_merged a b ties first_bytes second_bytes g w bw ∙ ap (λ x. member a g w || member b g x) is

    -- 'a tied junction keeps those of both', and has no other.
    pub tied_members : (i : ℕ) → i < length ties.firsts → (g : ℕ)
        → member (merged a b ties) g (get_or ties.firsts i 0) ≡ (member a g (get_or ties.firsts i 0) || member b g (get_or ties.seconds i 0))
    tied_members i h g =
        stands g (get_or ties.firsts i 0) (get_or ties.seconds i 0) (below_merged (get_or ties.firsts i 0) (ties_sound.first_below_law i h))
        (standing_tied (length a.groups) (length b.groups) ties ties_sound i h)

    -- 'its own is that of the first survey, or of the second where that is 0'.
    pub tied_own : (i : ℕ) → i < length ties.firsts
        → get_or (merged a b ties).groups (get_or ties.firsts i 0) 0
        ≡ cond (eqb (get_or a.groups (get_or ties.firsts i 0) 0) 0) (get_or b.groups (get_or ties.seconds i 0) 0) (get_or a.groups (get_or ties.firsts i 0) 0)
    unfolding own_at second_at vertex_count
    tied_own i h =
        let u = get_or ties.firsts i 0 in
        merged_own a b ties (get_or ties.firsts i 0) (below_merged (get_or ties.firsts i 0) (ties_sound.first_below_law i h))
        ∙ ap (λ x. cond (eqb (get_or a.groups (get_or ties.firsts i 0) 0) 0) (get_or b.groups x 0) (get_or a.groups (get_or ties.firsts i 0) 0))
        (standing_tied (length a.groups) (length b.groups) ties ties_sound i h)

    -- 'and every other is a pair'.
    pub tied_pairs : (i : ℕ) → i < length ties.firsts → (g : ℕ)
        → is_paired (lists_of (merged a b ties)) g (get_or ties.firsts i 0)
        ≡ ((member a g (get_or ties.firsts i 0) || member b g (get_or ties.seconds i 0)) && not (eqb g (get_or (merged a b ties).groups (get_or ties.firsts i 0) 0)))
    unfolding is_further belongs second_at vertex_count
    tied_pairs i h g =
        let u = get_or ties.firsts i 0 in
        let bu : get_or ties.firsts i 0 < merged_vertices a b ties = below_merged (get_or ties.firsts i 0) (ties_sound.first_below_law i h) in
        paired_merged a b ties first_bytes second_bytes g u bu
        ∙ rw (merged_own a b ties u bu)
        (ap (λ v. (member a g u || member b g v) && not (eqb g (own_at a b ties u))) (standing_tied (length a.groups) (length b.groups) ties ties_sound i h))

    -- An untied junction has its own memberships alone: of the first,
    pub first_members : (g u : ℕ) → u < length a.groups → is_tied ties.firsts u ≡ false → member (merged a b ties) g u ≡ member a g u
    first_members g u h free =
        stands g u (length b.groups) (below_merged u h) (standing_none (length a.groups) (length b.groups) ties ties_sound u h free)
        ∙ ap (λ t. member a g u || t) (member_past b second_sound g (length b.groups) (omega arith))
        ∙ or-false (member a g u)

    -- and of the second.
    pub second_members : (g v : ℕ) → v < length b.groups → is_tied ties.seconds v ≡ false
        → member (merged a b ties) g (placed (length a.groups) ties v) ≡ member b g v
    unfolding merged_vertices vertex_count
    second_members g v h free =
        let w = placed (length a.groups) ties v in
        stands g w v (placed_below (length a.groups) (length b.groups) ties ties_sound v h)
        (standing_placed (length a.groups) (length b.groups) ties ties_sound v h)
        ∙ ap (λ t. t || member b g v) (member_past a first_sound g w (untied_behind (length a.groups) (length b.groups) ties ties_sound v free))
