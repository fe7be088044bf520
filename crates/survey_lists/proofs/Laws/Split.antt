-- The test over disjoint groups serves for lists, with the pairs as further entries (document 02, No. 2; refusals 8 and 14). Whether a list is not joined
-- is the same after pouring.
use Rattle.std.specs.Prelude.{ℕ, zero, suc, ◌+◌, ◌-◌, ◌<◌, ◌≤◌, ◌≡◌, ◌⊎◌, ◌↔◌, Bool, true, not, List, get_or, eqb}
use native.Mathlib.Omega.{arith}
use Rattle.std.proofs.Math.Nat.{add-sub_cancel_left}
use Rattle.std.proofs.Math.Path.{refl, ap, sym}
use Rattle.std.proofs.Common.{◌∙◌, inl, inr, lt-ltb, le-ltb}
use Rattle.std.proofs.Math.ListN.{length}
use Rattle.base_finite.specs.Below.{any_below, tabulate}
use Rattle.base_finite.specs.Laws.Below.{length_tabulate, get_d_tabulate, lt_or_ge}
use Rattle.base_finite.specs.Laws.Test.{same_test_law}
use Rattle.base_buffer.proofs.Laws.Store.{tabulate_cong}
use Rattle.base_limits.specs.Limits.{group_numbers}
use Rattle.base_limits.specs.Verdict.{refuse_if, lowest_below}
use Rattle.base_limits.specs.declared.Verdict.TheVariants.{Fine}
use Rattle.base_limits.specs.Laws.Verdict.{lowest_cong}
use Rattle.theory_steiner.specs.Problem.{Bounded}
use Rattle.survey_core.specs.Lists.{Lists, own, owner, other, is_paired, in_list}
use Rattle.survey_core.specs.Survey.{Survey, survey_from, lists_of, lists_alone, groups_alone, vertex_count, edge_count, member, group_joined, problem_of}
use Rattle.survey_core.specs.Sound.{ByteGroups}
use Rattle.survey_core.specs.Refusal.{group_refusal}
use Rattle.survey_core.specs.Pairs.{PairsSound}
use Rattle.survey_core.proofs.Laws.Group.{group_fine, joins_fine}
use Rattle.survey_core.proofs.Laws.Lists.{Listed, by_own, by_pair, in_list_some, in_list_elim, in_list_intro}
use Rattle.survey_core.proofs.Laws.Member.{IsMember, member_elim, member_intro, labels_joined_elim, labels_joined_intro}
use Rattle.survey_groups.specs.Spread.{spread, noted_in}
use Rattle.survey_groups.specs.Laws.Spread.{split_lowest, spread_step}
use Rattle.survey_lists.specs.Split.{split_list, pair_group, entry_group, entry_vertex, entries}
use Rattle.survey_lists.specs.Pouring.{IsPoured, poured_survey}
use Rattle.survey_lists.proofs.Laws.Plan.{into_joins, is_poured, poured_bytes}

-- ---- the entries

module _ (l : Lists) where
  abbrev n : ℕ
  n = length l.groups

  abbrev whole : Survey
  whole = lists_alone l.groups l.owners l.others

  abbrev alone : Survey
  alone = groups_alone (entries l)

  length_entries : length (entries l) ≡ n + length l.owners
  unfolding entries
  length_entries = length_tabulate (n + length l.owners) (entry_group l)

  entry_at : (j : ℕ) → j < n + length l.owners → get_or (entries l) j 0 ≡ entry_group l j
  unfolding entries
  entry_at j b = get_d_tabulate (n + length l.owners) (entry_group l) j 0 b

  -- An own group stands at its vertex, pair i at n + i.
  own_entry : (v : ℕ) → v < n → (entry_group l v ≡ own l v) × (entry_vertex l v ≡ v)
  unfolding entry_group entry_vertex
  own_entry v b = ((rw (lt-ltb v n b)), (rw (lt-ltb v n b)))

  pair_entry : (i : ℕ) → (entry_group l (n + i) ≡ pair_group l i) × (entry_vertex l (n + i) ≡ owner l i)
  unfolding entry_group entry_vertex
  pair_entry i =
      let c : n ≤ n + i = omega arith in
      ((rw (le-ltb (n + i) n c, add-sub_cancel_left n i)), (rw (le-ltb (n + i) n c, add-sub_cancel_left n i)))

  -- The group of a pair whose vertex is one of the survey, and of any other.
  pub pair_group_law : (i : ℕ) → owner l i < n → pair_group l i ≡ other l i
  unfolding pair_group
  pair_group_law i b = rw (lt-ltb (owner l i) n b)

  pub pair_none : (i : ℕ) → n ≤ owner l i → pair_group l i ≡ 0
  unfolding pair_group
  pair_none i b = rw (le-ltb (owner l i) n b)

  -- A membership of vertex u in list g.
  record Entry (g u : ℕ) : Type 0 where
    at : ℕ
    below : at < n + length l.owners
    group : entry_group l at ≡ g
    vertex : entry_vertex l at ≡ u

  entry_of : (g u : ℕ) → u < n → in_list l g u ≡ true → Entry g u
  entry_of g u b h = by (in_list_elim l g u h)
    where
      by : Listed l g u → Entry g u
      by (by_own e) = record { at = u; below = omega arith; group = (own_entry u b).0 ∙ e; vertex = (own_entry u b).1 }
      by (by_pair p) =
          let o = p.owner_is in
          let c = p.below in
          record {
            at = n + p.at;
            below = omega arith;
            group = (pair_entry p.at).0 ∙ pair_group_law p.at (omega arith) ∙ p.other_is;
            vertex = (pair_entry p.at).1 ∙ p.owner_is;
          }

  -- An entry of a list is a membership of a vertex below n.
  record Member (g u : ℕ) : Type 0 where
    below : u < n
    in_list_law : in_list l g u ≡ true

  member_of_law : (g j : ℕ) → j < n + length l.owners → (g ≡ 0 → ⊥) → entry_group l j ≡ g → Member g (entry_vertex l j)
  member_of_law g j b some e = by (lt_or_ge j n)
    where
      paired : (i : ℕ) → i < length l.owners → j ≡ n + i → (owner l i < n) ⊎ (n ≤ owner l i) → Member g (entry_vertex l j)
      paired i c q (inl d) =
          let v : entry_vertex l j ≡ owner l i = ap (entry_vertex l) q ∙ (pair_entry i).1 in
          let f : other l i ≡ g = sym (ap (entry_group l) q ∙ (pair_entry i).0 ∙ pair_group_law i d) ∙ e in
          record {
            below = omega arith;
            in_list_law = in_list_intro l g (entry_vertex l j) some (by_pair (record { at = i; below = c; owner_is = sym v; other_is = f }));
          }
      paired i c q (inr d) = absurd (some (sym e ∙ ap (entry_group l) q ∙ (pair_entry i).0 ∙ pair_none i d))

      by : (j < n) ⊎ (n ≤ j) → Member g (entry_vertex l j)
      by (inl c) =
          let v : entry_vertex l j ≡ j = (own_entry j c).1 in
          record {
            below = omega arith;
            in_list_law = in_list_intro l g (entry_vertex l j) some (by_own (ap (own l) v ∙ sym (own_entry j c).0 ∙ e));
          }
      by (inr c) = paired (j - n) (omega arith) (omega arith) (lt_or_ge (owner l (j - n)) n)

  module _ (label : ℕ → ℕ) (g : ℕ) where
    abbrev label_at : ℕ → ℕ
    label_at j = label (entry_vertex l j)

    joined_list : group_joined alone label_at g ≡ true → group_joined whole label g ≡ true
    unfolding vertex_count member
    joined_list h =
        labels_joined_intro whole label g
        (λ u v bu bv mu mv.
        let some : g ≡ 0 → ⊥ = in_list_some l g u mu in
        let x : Entry g u = entry_of g u bu mu in
        let y : Entry g v = entry_of g v bv mv in
        let e : label_at x.at ≡ label_at y.at =
        labels_joined_elim alone label_at g h x.at y.at (rw length_entries x.below) (rw length_entries y.below)
        (member_intro alone g x.at some (entry_at x.at x.below ∙ x.group))
        (member_intro alone g y.at some (entry_at y.at y.below ∙ y.group)) in
        sym (ap label x.vertex) ∙ e ∙ ap label y.vertex)

    list_joined : group_joined whole label g ≡ true → group_joined alone label_at g ≡ true
    unfolding vertex_count member
    list_joined h =
        labels_joined_intro alone label_at g
        (λ j k bj bk mj mk.
        let cj : j < n + length l.owners = rw length_entries at bj in
        let ck : k < n + length l.owners = rw length_entries at bk in
        let ej : IsMember alone g j = member_elim alone refl g j mj in
        let ek : IsMember alone g k = member_elim alone refl g k mk in
        let x : Member g (entry_vertex l j) = member_of_law g j cj ej.some (sym (entry_at j cj) ∙ ej.same) in
        let y : Member g (entry_vertex l k) = member_of_law g k ck ek.some (sym (entry_at k ck) ∙ ek.same) in
        labels_joined_elim whole label g h (entry_vertex l j) (entry_vertex l k) x.below y.below x.in_list_law y.in_list_law)

    -- The entries of a list are joined exactly if the list is.
    pub entries_joined : group_joined alone label_at g ≡ group_joined (lists_alone l.groups l.owners l.others) label g
    entries_joined = same_test_law (group_joined alone label_at g) (group_joined (lists_alone l.groups l.owners l.others) label g) joined_list list_joined

-- ---- one pass over the entries

-- Where groups and labels agree below k, so do the summaries.
spread_prefix : (s t : List ℕ) (f h : ℕ → ℕ) (g k : ℕ) → ((v : ℕ) → v < k → get_or s v 0 ≡ get_or t v 0)
    → ((v : ℕ) → v < k → f v ≡ h v) → spread (groups_alone s) f g k ≡ spread (groups_alone t) h g k
unfolding spread member in_list is_paired any_below
spread_prefix s t f h g zero same labels = refl
spread_prefix s t f h g (suc k) same labels =
    rw
    (same k (omega arith), labels k (omega arith), spread_prefix s t f h g k (λ v b. same v (omega arith)) (λ v b. labels v (omega arith)))

-- One more entry, by the numbers that a call was given.
pub noted_by : (table : List ℕ) {after : List ℕ} {g h x y : ℕ} → after ≡ noted_in table g x → g ≡ h → x ≡ y → after ≡ noted_in table h y
noted_by table is p q = is ∙ rw (p, q)

-- A table of all lists, after the own groups and i pairs.
pub record Noted (l : Lists) (label : ℕ → ℕ) (i : ℕ) (table : List ℕ) : Type 0 where
  pub within : i ≤ length l.owners
  pub made : table ≡ tabulate group_numbers (λ g. spread (groups_alone (entries l)) (λ j. label (entry_vertex l j)) g (length l.groups + i))

module _ (l : Lists) (label : ℕ → ℕ) where
  pub noted_start : {table : List ℕ} → table ≡ tabulate group_numbers (λ g. spread (groups_alone l.groups) label g (length l.groups)) → Noted l label 0 table
  noted_start h =
      let z : length l.groups + 0 ≡ length l.groups = omega arith in
      record {
        within = omega arith;
        made =
            h
            ∙ tabulate_cong group_numbers
            (λ g. spread (groups_alone l.groups) label g (length l.groups))
            (λ g. spread (groups_alone (entries l)) (λ j. label (entry_vertex l j)) g (length l.groups + 0))
            (λ g b.
            rw z
            (spread_prefix l.groups (entries l) label (λ j. label (entry_vertex l j)) g (length l.groups)
            (λ v c. sym (entry_at l v (omega arith) ∙ (own_entry l v c).0))
            (λ v c. sym (ap label (own_entry l v c).1))));
      }

  pub noted_turn : {i : ℕ} {table after : List ℕ} → ((i : ℕ) → other l i < group_numbers) → Noted l label i table → i < length l.owners
      → after ≡ noted_in table (pair_group l i) (label (owner l i)) → Noted l label (i + 1) after
  noted_turn {i} {table} {after} bytes h b is =
      let e : (length l.groups + i) + 1 ≡ length l.groups + (i + 1) = omega arith in
      record {
        within = omega arith;
        made =
            rw (sym e)
            (spread_step (groups_alone (entries l)) refl (λ j. label (entry_vertex l j)) (length l.groups + i) h.made is
            (sym (entry_at l (length l.groups + i) (omega arith) ∙ (pair_entry l i).0))
            (sym (ap label (pair_entry l i).1))
            (group_below (lt_or_ge (owner l i) (length l.groups))));
      }
    where
      group_below : (owner l i < length l.groups) ⊎ (length l.groups ≤ owner l i) → pair_group l i < group_numbers
      group_below (inl c) = rw (pair_group_law l i c) (bytes i)
      group_below (inr c) = rw (pair_none l i c) (omega arith)

  pub noted_end : {i : ℕ} {table : List ℕ} → Noted l label i table → length l.owners ≤ i
      → table ≡ tabulate group_numbers (λ g. spread (groups_alone (entries l)) (λ j. label (entry_vertex l j)) g (length l.groups + length l.owners))
  noted_end {i} h c = let w : i ≤ length l.owners = h.within in let e : length l.owners ≡ i = omega arith in rw e h.made

  -- The lowest split entry in the table is the lowest list that is not joined.
  pub split_list_found : {table : List ℕ} (number : ℕ)
      → table ≡ tabulate group_numbers (λ g. spread (groups_alone (entries l)) (λ j. label (entry_vertex l j)) g (length l.groups + length l.owners))
      → lowest_below group_numbers (λ g. refuse_if (eqb (get_or table g 0) 1) number g) ≡ split_list l label number
  unfolding vertex_count
  split_list_found {table} number h =
      split_lowest (groups_alone (entries l)) (λ j. label (entry_vertex l j)) {table = table} (rw (length_entries l) h) number
      ∙ lowest_cong group_numbers
      (λ g. refuse_if (not (group_joined (groups_alone (entries l)) (λ j. label (entry_vertex l j)) g)) number g)
      (λ g. refuse_if (not (group_joined (lists_alone l.groups l.owners l.others) label g)) number g)
      (λ g b. ap (λ t. refuse_if (not t) number g) (entries_joined l label g))

-- ---- pouring

-- Whether a list is not joined is the same after pouring, into whatever groups; only its number is not.
pub into_refusal : (s : Survey) (number : ℕ) (F : ℕ → Bool) {groups : List ℕ} → IsPoured (lists_of s) groups → ByteGroups s → ByteGroups (survey_from groups s.firsts s.seconds s.weights)
    → Bounded (problem_of s) F → (group_refusal s number F ≡ Fine) ↔ (group_refusal (survey_from groups s.firsts s.seconds s.weights) number F ≡ Fine)
unfolding problem_of edge_count
into_refusal s number F {groups} poured numbered bytes bounded =
    let t = survey_from groups s.firsts s.seconds s.weights in (
      λ h. joins_fine t number F bounded ((into_joins s poured F bounded).0 (group_fine s number F bounded numbered h)),
      λ h. joins_fine s number F bounded ((into_joins s poured F bounded).1 (group_fine t number F bounded bytes h)),
    )

pub poured_refusal : (s : Survey) (number : ℕ) (F : ℕ → Bool) → PairsSound (lists_of s) → ByteGroups s → Bounded (problem_of s) F
    → (group_refusal s number F ≡ Fine) ↔ (group_refusal (poured_survey s) number F ≡ Fine)
poured_refusal s number F sound numbered bounded = into_refusal s number F (is_poured (lists_of s) sound) numbered (poured_bytes s numbered) bounded
