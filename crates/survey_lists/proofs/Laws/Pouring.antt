-- Pouring means what document 02, No. 2 says: where 18 does not come, two junctions have one poured group exactly if a chain of lists, each sharing a
-- member with the next, links them. The groups that planning runs on are poured.
use Rattle.std.specs.Prelude.{ℕ, ◌<◌, ◌≡◌, refl, ◌↔◌, true, [], List, length, get_or, ltb}
use Rattle.std.proofs.Math.Path.{ap, sym}
use Rattle.std.proofs.Common.{◌∙◌, subst, ext_get_or, lt-ltb, ltb-true}
use Rattle.base_finite.specs.Laws.Below.{length_tabulate, get_d_tabulate}
use Rattle.base_finite.specs.Laws.Test.{and_left, and_both}
use Rattle.base_limits.specs.Limits.{group_numbers}
use Rattle.theory_graph.specs.Path.{forth, back, Linked, here, step}
use Rattle.theory_graph.specs.Component.{components}
use Rattle.theory_graph.proofs.Laws.Linked.{linked_trans, linked_sym, linked_refl, linked_edge}
use Rattle.theory_graph.proofs.Laws.Component.{below, components_iff}
use Rattle.theory_graph.proofs.Laws.Label.{label_below_law, untouched_label}
use Rattle.survey_core.specs.Lists.{Lists, lists_from, own, owner, other, in_list}
use Rattle.survey_core.specs.Pairs.{PairsSound}
use Rattle.survey_lists.specs.Pouring.{Chained, same, shared, ChainLinked, home_below, home, poured_label, poured, poured_groups}
use Rattle.survey_core.proofs.Laws.Lists.{Listed, by_own, by_pair, in_list_some, in_list_elim, in_list_intro}
use Rattle.survey_lists.proofs.Laws.Home.{home_own, in_list_home, home_in_list, home_below_law}

module _ (l : Lists) where
  -- The pairs lead from list g to list h.
  abbrev Pours : (g h : ℕ) → Type 0
  Pours g h = Linked (λ i. home l (owner l i)) (other l) (below (λ i. true) (length l.owners)) g h

  label_pours : (g h : ℕ) → (poured_label l g ≡ poured_label l h) ↔ Pours g h
  unfolding poured_label
  label_pours g h = components_iff group_numbers (λ i. home l (owner l i)) (other l) (λ i. true) (length l.owners) g h

  -- From the home of v the pairs lead to every list of v.
  in_list_pours : (g v : ℕ) → in_list l g v ≡ true → Pours (home l v) g
  in_list_pours g v h = by (in_list_elim l g v h)
    where
      some : g ≡ 0 → ⊥
      some = in_list_some l g v h

      by : Listed l g v → Pours (home l v) g
      by (by_own e) = linked_refl (home_own l v (λ z. some (sym e ∙ z)) ∙ e)
      by (by_pair p) =
          linked_edge p.at (and_both (ltb p.at (length l.owners)) true (lt-ltb p.at (length l.owners) p.below) refl)
          (forth (ap (home l) p.owner_is) p.other_is)

  chain_pours : {g h : ℕ} → Chained l g h → Pours g h
  chain_pours same = here
  chain_pours (shared {g} {k} {h} x b m n c) =
      linked_trans (linked_sym (in_list_pours g x m)) (linked_trans (in_list_pours k x n) (chain_pours c))

  -- No list is numbered 0.
  chain_zero : {g h : ℕ} → Chained l g h → g ≡ 0 → h ≡ 0
  chain_zero same e = e
  chain_zero (shared {g} {k} {h} x b m n c) e = absurd (in_list_some l g x m e)

  module _ (sound : PairsSound l) where
    -- The owner of a pair is a member of its list.
    pair_member : (i : ℕ) → i < length l.owners → in_list l (other l i) (owner l i) ≡ true
    pair_member i b =
        in_list_intro l (other l i) (owner l i) (sound i b).some (by_pair (record { at = i; below = b; owner_is = refl; other_is = refl }))

    owner_home : (i : ℕ) → i < length l.owners → home l (owner l i) ≡ 0 → ⊥
    owner_home i b = in_list_home l (other l i) (owner l i) (pair_member i b)

    pours_chain : {g h : ℕ} → Pours g h → Chained l g h
    pours_chain here = same
    pours_chain (step e f (forth p q) r) =
        let b : e < length l.owners = ltb-true e (length l.owners) (and_left (ltb e (length l.owners)) true f) in
        shared (owner l e) (sound e b).below
        (subst (λ x. in_list l x (owner l e) ≡ true) p (home_in_list l (owner l e) (owner_home e b)))
        (subst (λ x. in_list l x (owner l e) ≡ true) q (pair_member e b))
        (pours_chain r)
    pours_chain (step e f (back p q) r) =
        let b : e < length l.owners = ltb-true e (length l.owners) (and_left (ltb e (length l.owners)) true f) in
        shared (owner l e) (sound e b).below
        (subst (λ x. in_list l x (owner l e) ≡ true) p (pair_member e b))
        (subst (λ x. in_list l x (owner l e) ≡ true) q (home_in_list l (owner l e) (owner_home e b)))
        (pours_chain r)

    label_zero : poured_label l 0 ≡ 0
    unfolding poured_label
    label_zero =
        untouched_label group_numbers (λ i. home l (owner l i)) (other l) (λ i. true) (length l.owners) 0
        (λ i b. (owner_home i b, (sound i b).some))

    -- The poured group is 0 for a vertex without a list, and for no other.
    pub poured_none : (v : ℕ) → home l v ≡ 0 → poured l v ≡ 0
    unfolding poured
    poured_none v e = ap (poured_label l) e ∙ label_zero

    pub poured_some : (v : ℕ) → (home l v ≡ 0 → ⊥) → poured l v ≡ 0 → ⊥
    unfolding poured
    poured_some v some e = some (chain_zero (pours_chain ((label_pours 0 (home l v)).0 (label_zero ∙ sym e))) refl)

    chain_linked : (u v : ℕ) → poured l u ≡ poured l v → (poured l u ≡ 0 → ⊥) → ChainLinked l u v
    unfolding poured
    chain_linked u v e some =
        record {
          from = home l u;
          to = home l v;
          member_from = home_in_list l u (λ z. some (poured_none u z));
          member_to = home_in_list l v (λ z. some (e ∙ poured_none v z));
          chain = pours_chain ((label_pours (home l u) (home l v)).0 e);
        }

    linked_poured : (u v : ℕ) → ChainLinked l u v → poured l u ≡ poured l v
    unfolding poured
    linked_poured u v c =
        (label_pours (home l u) (home l v)).1
        (linked_trans (in_list_pours c.from u c.member_from)
        (linked_trans (chain_pours c.chain) (linked_sym (in_list_pours c.to v c.member_to))))

    -- Two vertices have one poured group exactly if a chain of lists links them.
    pub poured_iff : (u v : ℕ) → ((poured l u ≡ poured l v) × (poured l u ≡ 0 → ⊥)) ↔ ChainLinked l u v
    poured_iff u v = (
      λ h. chain_linked u v h.0 h.1,
      λ c. (linked_poured u v c, poured_some u (in_list_home l c.from u c.member_from)),
    )

  -- ---- the poured groups as a buffer

  pub length_poured : length (poured_groups l) ≡ length l.groups
  unfolding poured_groups
  length_poured = length_tabulate (length l.groups) (λ v. poured_label l (home l v))

  pub get_d_poured : (v : ℕ) → v < length l.groups → get_or (poured_groups l) v 0 ≡ poured l v
  unfolding poured_groups poured
  get_d_poured v b = get_d_tabulate (length l.groups) (λ v. poured_label l (home l v)) v 0 b

  -- Poured groups are bytes where the groups are, own and by pair.
  pub poured_below : ((v : ℕ) → own l v < group_numbers) → ((i : ℕ) → other l i < group_numbers) → (v : ℕ) → poured l v < group_numbers
  unfolding poured poured_label home
  poured_below groups others v =
      label_below_law group_numbers (λ i. home l (owner l i)) (other l) (λ i. true) group_numbers (length l.owners)
      (λ i b. home_below_law l group_numbers groups others (owner l i) (length l.owners))
      (home l v)
      (home_below_law l group_numbers groups others v (length l.owners))

-- Without pairs nothing is poured.
pub no_pairs_poured : (groups : List ℕ) (v : ℕ) → poured (lists_from groups [] []) v ≡ get_or groups v 0
unfolding poured poured_label home home_below components
no_pairs_poured groups v = refl

pub no_pairs_groups : (groups : List ℕ) → poured_groups (lists_from groups [] []) ≡ groups
no_pairs_groups groups =
    ext_get_or 0 (poured_groups (lists_from groups [] [])) groups (length_poured (lists_from groups [] []))
    (λ v b.
    let c : v < length groups = rw (length_poured (lists_from groups [] [])) at b in
    get_d_poured (lists_from groups [] []) v c ∙ no_pairs_poured groups v)
