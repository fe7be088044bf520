-- Weak duality of directed cuts: the shares come to at most the cost of any set that joins every group. Within a tree of the set, walked away from
-- the root of its lowest group, every edge is used in one direction at most, and every cut is entered. Who drew the cuts does not matter.
use Prim.Native.Nat.{ℕ, zero, suc, ◌+◌, ◌≤◌, ◌<◌}
use Rattle.std.specs.Prelude.{◌≡◌, refl, ◌⊎◌, Bool, ◌&&◌, ◌||◌, ltb}
use Rattle.std.proofs.Math.Path.{ap, sym, subst}
use Rattle.std.proofs.Common.{◌∙◌, inr}
use Rattle.std.proofs.Math.Logic.{inl, ⊎_elim}
use Rattle.std.proofs.Math.Bool.{true, false, not, and-false}
use mathlib.Core.List.{[], List, ◌∷◌}
use native.Mathlib.Omega.{arith}
use Rattle.std.proofs.Math.Dec.{eqb}
use borrow.Author.Tests.{eqb-true, eq-eqb, ne_eqb, not-true, lt-ltb, ltb-true}
use Rattle.base_finite.specs.Below.{counted, sum_below, any_below}
use Rattle.base_finite.specs.Laws.Test.{either, and_left, and_right, and_both, or_cases, or_left, or_right, not_of_false, true_not_false}
use Rattle.base_finite.specs.Laws.Below.{below_suc, lt_or_ge, sum_cong, sum_le, sum_zero, sum_add, sum_swap, sum_member, sum_only, counted_true, counted_false, counted_mono, counted_zero, counted_add, any_intro, any_elim, any_none, Found}
use Rattle.theory_graph.specs.Path.{Leads, forth, back, Linked, here, step}
use Rattle.theory_graph.proofs.Laws.Linked.{linked_edge, linked_trans}
use Rattle.theory_steiner.specs.Problem.{Problem, Bounded, EdgeSet, Joins, cost}
use Rattle.theory_directed.specs.Directed.{lowest, Groups, peopled, Grouped, Cut, EachCut, none, more, amount, enters, arc_load, Rooted, Certified}
use Rattle.theory_steiner.proofs.Laws.Joined.{label_of, label_linked, linked_label}

-- ---- amounts

amount_mono : (ds : List Cut) (s t : Cut → Bool) → ((d : Cut) → s d ≡ true → t d ≡ true) → amount ds s ≤ amount ds t
unfolding amount
amount_mono [] s t h = omega arith
amount_mono (d ∷ ds) s t h = omega (arith, amount_mono ds s t h, counted_mono (s d) (t d) d.value (h d))

each_map : {P Q : Cut → Type 0} → ((d : Cut) → P d → Q d) → {ds : List Cut} → EachCut P ds → EachCut Q ds
each_map f none = none
each_map f (more {d = d} h hs) = more (f d h) (each_map f hs)

-- Of the numbers below n, at most one is l.
one_of : (n l x : ℕ) (t : Bool) → sum_below n (λ c. counted (t && eqb l c) x) ≤ counted t x
one_of n l x t = ⊎_elim in_range out_of_range (lt_or_ge l n)
  where
    off : (c : ℕ) → (c ≡ l → ⊥) → counted (t && eqb l c) x ≡ 0
    off c other = counted_false (rw (ne_eqb l c (λ e. other (sym e))) (and-false t)) x

    in_range : l < n → sum_below n (λ c. counted (t && eqb l c) x) ≤ counted t x
    in_range b =
        omega
        (arith, sum_only n (λ c. counted (t && eqb l c) x) l b (λ c bc other. off c other), counted_mono (t && eqb l l) t x (and_left t (eqb l l)))

    out_of_range : n ≤ l → sum_below n (λ c. counted (t && eqb l c) x) ≤ counted t x
    out_of_range g = omega (arith, sum_zero n (λ c. counted (t && eqb l c) x) (λ c bc. off c (λ e. omega arith)))

-- Amounts by group come to at most the amount of the cuts whose group passes.
amount_groups : (n : ℕ) (t : ℕ → Bool) (ds : List Cut) →
    sum_below n (λ l. counted (t l) (amount ds (λ d. eqb d.group l))) ≤ amount ds (λ d. t d.group)
unfolding amount
amount_groups n t [] = omega (arith, sum_zero n (λ l. counted (t l) 0) (λ l b. counted_zero (t l)))
amount_groups n t (d ∷ ds) =
    omega (
      arith,
      amount_groups n t ds,
      sum_cong n (λ l. counted (t l) (counted (eqb d.group l) d.value + amount ds (λ d. eqb d.group l)))
          (λ l. counted (t l) (counted (eqb d.group l) d.value) + counted (t l) (amount ds (λ d. eqb d.group l)))
          (λ l b. counted_add (t l) (counted (eqb d.group l) d.value) (amount ds (λ d. eqb d.group l))),
      sum_add n (λ l. counted (t l) (counted (eqb d.group l) d.value)) (λ l. counted (t l) (amount ds (λ d. eqb d.group l))),
      sum_le n (λ l. counted (t l) (counted (eqb d.group l) d.value)) (λ l. counted (t d.group && eqb d.group l) d.value)
          (λ l b. same l (eqb d.group l) refl),
      one_of n d.group d.value (t d.group),
    )
  where
    same : (l : ℕ) (s : Bool) → eqb d.group l ≡ s →
        counted (t l) (counted (eqb d.group l) d.value) ≤ counted (t d.group && eqb d.group l) d.value
    same l true h =
        let e : d.group ≡ l = eqb-true d.group l h in
        omega (
          arith,
          ap (λ x. counted (t l) x) (counted_true h d.value),
          counted_mono (t l) (t d.group && eqb d.group l) d.value
              (λ k. and_both (t d.group) (eqb d.group l) (subst (λ x. t x ≡ true) (sym e) k) h),
        )
    same l false h = omega (arith, ap (λ x. counted (t l) x) (counted_false h d.value), counted_zero (t l))

-- ---- one root

module _ (a b : ℕ → ℕ) (m : ℕ) (H : ℕ → Bool) (bounded : (e : ℕ) → H e ≡ true → e < m) (r : ℕ) where
  -- A walk of at most so many edges of H leads from r to v.
  unfoldable reach : ℕ → ℕ → Bool
  reach zero v = eqb v r
  reach (suc i) v = reach i v || any_below m (λ e. H e && (eqb (b e) v && reach i (a e) || eqb (a e) v && reach i (b e)))

  -- Edge e leads to v from a vertex that such a walk reaches.
  abbrev leads_to : ℕ → ℕ → ℕ → Bool
  leads_to i v e = H e && (eqb (b e) v && reach i (a e) || eqb (a e) v && reach i (b e))

  reach_later : (i j v : ℕ) → i ≤ j → reach i v ≡ true → reach j v ≡ true
  unfolding reach
  reach_later i zero v b h = let e : i ≡ 0 = omega arith in subst (λ x. reach x v ≡ true) e h
  reach_later i (suc j) v b h =
      ⊎_elim
      (λ c. or_left (reach j v) (any_below m (leads_to j v)) (reach_later i j v (omega arith) h))
      (λ e. subst (λ x. reach x v ≡ true) e h)
      (below_suc i (suc j) (omega arith))

  reach_step : (i e u v : ℕ) → H e ≡ true → Leads a b e u v → reach i u ≡ true → reach (suc i) v ≡ true
  unfolding reach
  reach_step i e u v f l h = or_right (reach i v) (any_below m (leads_to i v)) (any_intro m (leads_to i v) e (bounded e f) (and_both (H e) _ f (by l)))
    where
      by : Leads a b e u v → (eqb (b e) v && reach i (a e) || eqb (a e) v && reach i (b e)) ≡ true
      by (forth p q) =
          or_left (eqb (b e) v && reach i (a e)) (eqb (a e) v && reach i (b e))
          (and_both (eqb (b e) v) (reach i (a e)) (eq-eqb (b e) v q) (subst (λ x. reach i x ≡ true) (sym p) h))
      by (back p q) =
          or_right (eqb (b e) v && reach i (a e)) (eqb (a e) v && reach i (b e))
          (and_both (eqb (a e) v) (reach i (b e)) (eq-eqb (a e) v q) (subst (λ x. reach i x ≡ true) (sym p) h))

  -- A number of steps that is enough for v.
  record Near (v : ℕ) : Type 0 where
    steps : ℕ
    near : reach steps v ≡ true

  reach_linked : {u w : ℕ} → Linked a b H u w → (i : ℕ) → reach i u ≡ true → Near w
  reach_linked here i h = record { steps = i; near = h }
  reach_linked (step {u = u} {v = v} e f l p) i h = reach_linked p (suc i) (reach_step i e u v f l h)

  -- An edge of H from a vertex outside S that i steps reach to one inside that they do not.
  pub record Entry (n : ℕ) (S : ℕ → Bool) : Type 0 where
    edge : ℕ
    member : H edge ≡ true
    after : ℕ
    early : after < n
    way :
        ((reach after (a edge) ≡ true) × (reach after (b edge) ≡ false) × (S (a edge) ≡ false) × (S (b edge) ≡ true)) ⊎
        ((reach after (b edge) ≡ true) × (reach after (a edge) ≡ false) × (S (b edge) ≡ false) × (S (a edge) ≡ true))

  later : {n : ℕ} {S : ℕ → Bool} → Entry n S → Entry (suc n) S
  later x = let c : x.after < _ = x.early in record { edge = x.edge; member = x.member; after = x.after; early = omega arith; way = x.way }

  -- Whoever is reached inside S was let in by such an edge.
  entry : (S : ℕ → Bool) → S r ≡ false → (n v : ℕ) → reach n v ≡ true → S v ≡ true → Entry n S
  unfolding reach
  entry S out zero v h inside = true_not_false (S v) inside (ap S (eqb-true v r h) ∙ out)
  entry S out (suc i) v h inside = by (λ u k s. entry S out i u k s) (either (reach i v))
    where
      by : ((u : ℕ) → reach i u ≡ true → S u ≡ true → Entry i S) → (reach i v ≡ true) ⊎ (reach i v ≡ false) → Entry (suc i) S
      by before (inl k) = later (before v k inside)
      by before (inr k) =
          ⊎_elim
          (λ l. true_not_false (reach i v) l k)
          (λ l. found (any_elim m (leads_to i v) l))
          (or_cases (reach i v) (any_below m (leads_to i v)) h)
        where
          forwards : (e : ℕ) → H e ≡ true → b e ≡ v → reach i (a e) ≡ true → Entry (suc i) S
          forwards e f q x =
              ⊎_elim
              (λ s. later (before (a e) x s))
              (λ s. record { edge = e; member = f; after = i; early = omega arith; way = inl (x, subst (λ y. reach i y ≡ false) (sym q) k, s, ap S q ∙ inside) })
              (either (S (a e)))

          backwards : (e : ℕ) → H e ≡ true → a e ≡ v → reach i (b e) ≡ true → Entry (suc i) S
          backwards e f q x =
              ⊎_elim
              (λ s. later (before (b e) x s))
              (λ s. record { edge = e; member = f; after = i; early = omega arith; way = inr (x, subst (λ y. reach i y ≡ false) (sym q) k, s, ap S q ∙ inside) })
              (either (S (b e)))

          found : Found m (leads_to i v) → Entry (suc i) S
          found x =
              let e : ℕ = x.at in
              let f : H e ≡ true = and_left (H e) (eqb (b e) v && reach i (a e) || eqb (a e) v && reach i (b e)) x.passes in
              ⊎_elim
              (λ t. forwards e f (eqb-true (b e) v (and_left (eqb (b e) v) (reach i (a e)) t)) (and_right (eqb (b e) v) (reach i (a e)) t))
              (λ t. backwards e f (eqb-true (a e) v (and_left (eqb (a e) v) (reach i (b e)) t)) (and_right (eqb (a e) v) (reach i (b e)) t))
              (or_cases (eqb (b e) v && reach i (a e)) (eqb (a e) v && reach i (b e))
              (and_right (H e) (eqb (b e) v && reach i (a e) || eqb (a e) v && reach i (b e)) x.passes))

  -- The direction away from r in which an edge is used: from its first end, or from its second.
  ahead : ℕ → ℕ → Bool
  ahead n e = any_below n (λ i. reach i (a e) && not (reach i (b e)))

  behind : ℕ → ℕ → Bool
  behind n e = any_below n (λ i. reach i (b e) && not (reach i (a e)))

  not_both : (n e : ℕ) → ahead n e ≡ true → behind n e ≡ true → ⊥
  unfolding ahead behind
  not_both n e h k = by (any_elim n (λ i. reach i (a e) && not (reach i (b e))) h) (any_elim n (λ i. reach i (b e) && not (reach i (a e))) k)
    where
      by : Found n (λ i. reach i (a e) && not (reach i (b e))) → Found n (λ i. reach i (b e) && not (reach i (a e))) → ⊥
      by x y =
          let i : ℕ = x.at in
          let j : ℕ = y.at in
          ⊎_elim
          (λ c.
          true_not_false (reach j (a e)) (reach_later i j (a e) (omega arith) (and_left (reach i (a e)) (not (reach i (b e))) x.passes))
          (not-true (reach j (a e)) (and_right (reach j (b e)) (not (reach j (a e))) y.passes)))
          (λ c.
          true_not_false (reach i (b e)) (reach_later j i (b e) c (and_left (reach j (b e)) (not (reach j (a e))) y.passes))
          (not-true (reach i (b e)) (and_right (reach i (a e)) (not (reach i (b e))) x.passes)))
          (lt_or_ge i j)

  -- Edge e, in the direction in which it is used, enters the cut.
  used : ℕ → ℕ → Cut → Bool
  used n e d = ahead n e && enters d.holds (a e) (b e) || behind n e && enters d.holds (b e) (a e)

  -- No more than one direction is loaded.
  used_load : (n e w : ℕ) (ds : List Cut) → arc_load ds (a e) (b e) ≤ w → arc_load ds (b e) (a e) ≤ w → amount ds (used n e) ≤ w
  unfolding used arc_load
  used_load n e w ds h k = by (either (behind n e))
    where
      by : (behind n e ≡ true) ⊎ (behind n e ≡ false) → amount ds (used n e) ≤ w
      by (inl t) =
          omega (
            arith,
            k,
            amount_mono ds (used n e) (λ d. enters d.holds (b e) (a e))
                (λ d u.
                ⊎_elim
                (λ x. absurd (not_both n e (and_left (ahead n e) (enters d.holds (a e) (b e)) x) t))
                (λ x. and_right (behind n e) (enters d.holds (b e) (a e)) x)
                (or_cases (ahead n e && enters d.holds (a e) (b e)) (behind n e && enters d.holds (b e) (a e)) u)),
          )
      by (inr t) =
          omega (
            arith,
            h,
            amount_mono ds (used n e) (λ d. enters d.holds (a e) (b e))
                (λ d u.
                ⊎_elim
                (λ x. and_right (ahead n e) (enters d.holds (a e) (b e)) x)
                (λ x. true_not_false (behind n e) (and_left (behind n e) (enters d.holds (b e) (a e)) x) t)
                (or_cases (ahead n e && enters d.holds (a e) (b e)) (behind n e && enters d.holds (b e) (a e)) u)),
          )

  -- An entry is a use.
  entry_used : (n : ℕ) (d : Cut) (x : Entry n d.holds) → used n x.edge d ≡ true
  unfolding used ahead behind enters
  entry_used n d x = ⊎_elim forwards backwards x.way
    where
      e : ℕ
      e = x.edge

      i : ℕ
      i = x.after

      S : ℕ → Bool
      S = d.holds

      forwards : (reach i (a e) ≡ true) × (reach i (b e) ≡ false) × (S (a e) ≡ false) × (S (b e) ≡ true) → used n e d ≡ true
      forwards w =
          or_left (ahead n e && enters S (a e) (b e)) (behind n e && enters S (b e) (a e))
          (and_both (ahead n e) (enters S (a e) (b e))
          (any_intro n (λ i. reach i (a e) && not (reach i (b e))) i x.early (and_both (reach i (a e)) (not (reach i (b e))) w.0 (not_of_false (reach i (b e)) w.1)))
          (and_both (not (S (a e))) (S (b e)) (not_of_false (S (a e)) w.2) w.3))

      backwards : (reach i (b e) ≡ true) × (reach i (a e) ≡ false) × (S (b e) ≡ false) × (S (a e) ≡ true) → used n e d ≡ true
      backwards w =
          or_right (ahead n e && enters S (a e) (b e)) (behind n e && enters S (b e) (a e))
          (and_both (behind n e) (enters S (b e) (a e))
          (any_intro n (λ i. reach i (b e) && not (reach i (a e))) i x.early (and_both (reach i (b e)) (not (reach i (a e))) w.0 (not_of_false (reach i (a e)) w.1)))
          (and_both (not (S (b e))) (S (a e)) (not_of_false (S (b e)) w.2) w.3))

  -- A cut with a vertex inside that H links with r, which is outside.
  pub record Parted (S : ℕ → Bool) : Type 0 where
    pub vertex : ℕ
    pub linked : Linked a b H r vertex
    pub inside : S vertex ≡ true
    pub outside : S r ≡ false

  module _ (chosen : Cut → Bool) where
    -- The cuts of a list that are chosen, with their vertices within n steps.
    abbrev Within : ℕ → Cut → Type 0
    Within n d = chosen d ≡ true → Entry n d.holds

    record Depth (ds : List Cut) : Type 0 where
      steps : ℕ
      entries : EachCut (Within steps) ds

    widen : (n j : ℕ) → n ≤ j → (S : ℕ → Bool) → Entry n S → Entry j S
    widen n j c S x =
        let y : x.after < n = x.early in record { edge = x.edge; member = x.member; after = x.after; early = omega arith; way = x.way }

    -- There is a number of steps that is enough for all.
    depth : (ds : List Cut) → EachCut (λ d. chosen d ≡ true → Parted d.holds) ds → Depth ds
    unfolding reach
    depth [] none = record { steps = 0; entries = none }
    depth (d ∷ ds) (more h hs) = by (depth ds hs) (either (chosen d))
      where
        by : Depth ds → (chosen d ≡ true) ⊎ (chosen d ≡ false) → Depth (d ∷ ds)
        by x (inr k) = record { steps = x.steps; entries = more (λ c. true_not_false (chosen d) c k) x.entries }
        by x (inl k) =
            let q : Parted d.holds = h k in
            let z : Near q.vertex = reach_linked q.linked 0 (eq-eqb r r refl) in
            let n : ℕ = x.steps + z.steps in
            let fewer : x.steps ≤ n = omega arith in
            let reached : reach n q.vertex ≡ true = reach_later z.steps n q.vertex (omega arith) z.near in
            record {
              steps = n;
              entries =
                  more (λ c. entry d.holds q.outside n q.vertex reached q.inside)
                  (each_map (λ f w c. widen x.steps n fewer f.holds (w c)) x.entries);
            }

    -- Each chosen cut is in the load of an edge of H, in the direction in which it is used.
    chosen_le_used : (n : ℕ) (ds : List Cut) → EachCut (Within n) ds → amount ds chosen ≤ sum_below m (λ e. counted (H e) (amount ds (used n e)))
    unfolding amount
    chosen_le_used n [] none = omega arith
    chosen_le_used n (d ∷ ds) (more h hs) =
        omega (
          arith,
          chosen_le_used n ds hs,
          sum_cong m (λ e. counted (H e) (counted (used n e d) d.value + amount ds (used n e)))
              (λ e. counted (H e) (counted (used n e d) d.value) + counted (H e) (amount ds (used n e)))
              (λ e c. counted_add (H e) (counted (used n e d) d.value) (amount ds (used n e))),
          sum_add m (λ e. counted (H e) (counted (used n e d) d.value)) (λ e. counted (H e) (amount ds (used n e))),
          by (either (chosen d)),
        )
      where
        by : (chosen d ≡ true) ⊎ (chosen d ≡ false) → counted (chosen d) d.value ≤ sum_below m (λ e. counted (H e) (counted (used n e d) d.value))
        by (inr k) = omega (arith, counted_false k d.value)
        by (inl k) =
            let x : Entry n d.holds = h k in
            omega (
              arith,
              sum_member m (λ e. counted (H e) (counted (used n e d) d.value)) x.edge (bounded x.edge x.member),
              counted_true x.member (counted (used n x.edge d) d.value),
              counted_true (entry_used n d x) d.value,
              counted_true k d.value,
            )

    -- The chosen cuts come to at most the weight of H.
    pub tree_duality : (weight : ℕ → ℕ) (ds : List Cut) → EachCut (λ d. chosen d ≡ true → Parted d.holds) ds →
        ((e : ℕ) → H e ≡ true → (arc_load ds (a e) (b e) ≤ weight e) × (arc_load ds (b e) (a e) ≤ weight e)) →
        amount ds chosen ≤ sum_below m (λ e. counted (H e) (weight e))
    tree_duality weight ds h fits =
        let x : Depth ds = depth ds h in
        omega (
          arith,
          chosen_le_used x.steps ds x.entries,
          sum_le m (λ e. counted (H e) (amount ds (used x.steps e))) (λ e. counted (H e) (weight e)) (λ e c. by x.steps e (either (H e))),
        )
      where
        by : (n e : ℕ) → (H e ≡ true) ⊎ (H e ≡ false) → counted (H e) (amount ds (used n e)) ≤ counted (H e) (weight e)
        by n e (inr k) = omega (arith, counted_false k (amount ds (used n e)))
        by n e (inl k) =
            omega (
              arith,
              counted_true k (amount ds (used n e)),
              counted_true k (weight e),
              used_load n e (weight e) ds (fits e k).0 (fits e k).1,
            )

-- ---- the lowest group of a tree

pub lowest_is : (n : ℕ) (t : ℕ → Bool) (j : ℕ) → j < n → t j ≡ true → (t (lowest n t) ≡ true) × (lowest n t ≤ j)
unfolding lowest
lowest_is zero t j c h = absurd (omega arith)
lowest_is (suc n) t j c h = by (λ i b k. lowest_is n t i b k) (either (any_below n t))
  where
    by : ((i : ℕ) → i < n → t i ≡ true → (t (lowest n t) ≡ true) × (lowest n t ≤ i)) → (any_below n t ≡ true) ⊎ (any_below n t ≡ false) →
        (t (lowest (suc n) t) ≡ true) × (lowest (suc n) t ≤ j)
    by before (inl k) =
        let x : Found n t = any_elim n t k in
        let low : lowest n t ≤ x.at = (before x.at x.below x.passes).1 in
        let xb : x.at < n = x.below in
        let le : lowest n t ≤ j = ⊎_elim (λ b. (before j b h).1) (λ e. omega arith) (below_suc j n c) in
        rw k ((before x.at x.below x.passes).0, le)
    by before (inr k) =
        let e : j ≡ n = ⊎_elim (λ b. true_not_false (t j) h (any_none n t k j b)) (λ e. e) (below_suc j n c) in
        let le : n ≤ j = omega arith in
        rw k (subst (λ i. t i ≡ true) e h, le)

module _ (p : Problem) (g : Groups) (grouped : Grouped p g) (F : ℕ → Bool) (set : EdgeSet p F) (joins : Joins p F)
    (cuts : ℕ → List Cut) (share : ℕ → ℕ) (certified : Certified p g cuts share) where
  in_range : Bounded p F
  in_range e f = (set e f).0

  -- The lowest group whose root has this label, and that of the tree of group l.
  abbrev root_at : (x k : ℕ) → Bool
  root_at x k = peopled p g k && eqb (label_of p F (g.root k)) x

  owner : ℕ → ℕ
  owner x = lowest g.count (root_at x)

  abbrev lead : ℕ → ℕ
  lead l = owner (label_of p F (g.root l))

  lead_is : (l : ℕ) → l < g.count → peopled p g l ≡ true →
      (label_of p F (g.root (lead l)) ≡ label_of p F (g.root l)) × (lead l ≤ l) × (peopled p g (lead l) ≡ true)
  unfolding owner
  lead_is l c some =
      let x : ℕ = label_of p F (g.root l) in
      let i : ℕ = lowest g.count (root_at x) in
      let h : (root_at x i ≡ true) × (i ≤ l) = lowest_is g.count (root_at x) l c (and_both (peopled p g l) (eqb x x) some (eq-eqb x x refl)) in (
        eqb-true (label_of p F (g.root i)) x (and_right (peopled p g i) (eqb (label_of p F (g.root i)) x) h.0),
        h.1,
        and_left (peopled p g i) (eqb (label_of p F (g.root i)) x) h.0,
      )

  -- The edges of F in trees whose lowest group is k.
  tree_of : ℕ → ℕ → Bool
  tree_of k e = F e && eqb (owner (label_of p F (p.first e))) k

  tree_edge : (k e : ℕ) → tree_of k e ≡ true → F e ≡ true
  unfolding tree_of
  tree_edge k e h = and_left (F e) (eqb (owner (label_of p F (p.first e))) k) h

  -- A path of F stays in its tree.
  in_tree : (k : ℕ) {u w : ℕ} → Linked p.first p.second F u w → owner (label_of p F u) ≡ k → Linked p.first p.second (tree_of k) u w
  unfolding tree_of
  in_tree k here h = here
  in_tree k (step {u = u} {v = v} e f l q) h =
      let same : label_of p F u ≡ label_of p F v = linked_label p F in_range u v (linked_edge e f l) in
      step e (and_both (F e) (eqb (owner (label_of p F (p.first e))) k) f (eq-eqb (owner (label_of p F (p.first e))) k (ap owner (from l same) ∙ h))) l
      (in_tree k q (ap owner (sym same) ∙ h))
    where
      from : Leads p.first p.second e u v → label_of p F u ≡ label_of p F v → label_of p F (p.first e) ≡ label_of p F u
      from (forth x y) same = ap (label_of p F) x
      from (back x y) same = ap (label_of p F) y ∙ sym same

  -- The groups whose tree has k as its lowest.
  of_tree : ℕ → ℕ → Bool
  of_tree k l = ltb l g.count && eqb (lead l) k

  parted : (k : ℕ) (d : Cut) → Rooted p g k d → of_tree k d.group ≡ true →
      Parted p.first p.second p.edges (tree_of k) (λ e h. in_range e (tree_edge k e h)) (g.root k) d.holds
  unfolding of_tree peopled
  parted k d h c =
      let l : ℕ = d.group in
      let lb : l < g.count = ltb-true l g.count (and_left (ltb l g.count) (eqb (lead l) k) c) in
      let lk : lead l ≡ k = eqb-true (lead l) k (and_right (ltb l g.count) (eqb (lead l) k) c) in
      let x : Found p.vertices (λ v. g.member l v && d.holds v) = any_elim p.vertices (λ v. g.member l v && d.holds v) h.inside in
      let in_group : g.member l x.at ≡ true = and_left (g.member l x.at) (d.holds x.at) x.passes in
      let some : peopled p g l ≡ true = any_intro p.vertices (g.member l) x.at x.below in_group in
      let low : lead l ≤ l = (lead_is l lb some).1 in
      let root_same : label_of p F (g.root k) ≡ label_of p F (g.root l) =
      subst (λ y. label_of p F (g.root y) ≡ label_of p F (g.root l)) lk (lead_is l lb some).0 in
      let path : Linked p.first p.second F (g.root k) x.at =
      linked_trans (label_linked p F (g.root k) (g.root l) root_same)
      (joins (g.root l) x.at (grouped.root_below l lb some) x.below
      (grouped.within l (g.root l) x.at lb (grouped.root_member l lb some) in_group)) in
      record {
        vertex = x.at;
        linked = in_tree k path (ap owner root_same ∙ lk);
        inside = and_right (g.member l x.at) (d.holds x.at) x.passes;
        outside = h.outside (omega arith);
      }

  -- A share that counts for k is 0, or k is the lowest of a tree.
  lead_share : (k l : ℕ) → l < g.count → eqb (lead l) k ≡ true → (share l ≡ 0) ⊎ ((k ≤ l) × (peopled p g k ≡ true) × (peopled p g l ≡ true))
  lead_share k l lb h = by (either (peopled p g l))
    where
      by : (peopled p g l ≡ true) ⊎ (peopled p g l ≡ false) → (share l ≡ 0) ⊎ ((k ≤ l) × (peopled p g k ≡ true) × (peopled p g l ≡ true))
      by (inr empty) = inl (certified.idle l lb empty)
      by (inl some) =
          let e : lead l ≡ k = eqb-true (lead l) k h in
          inr (subst (λ y. y ≤ l) e (lead_is l lb some).1, subst (λ y. peopled p g y ≡ true) e (lead_is l lb some).2, some)

  -- The shares of the groups of one tree come to at most its cost.
  tree_share : (k : ℕ) → k < g.count →
      sum_below g.count (λ l. counted (eqb (lead l) k) (share l)) ≤ sum_below p.edges (λ e. counted (tree_of k e) (p.weight e))
  unfolding of_tree
  tree_share k kb = whole (either (peopled p g k))
    where
      empty_share : peopled p g k ≡ false → (l : ℕ) → l < g.count → (eqb (lead l) k ≡ true) ⊎ (eqb (lead l) k ≡ false) →
          counted (eqb (lead l) k) (share l) ≡ 0
      empty_share empty l lb (inr h) = counted_false h (share l)
      empty_share empty l lb (inl h) =
          ⊎_elim
          (λ z. counted_true h (share l) ∙ z)
          (λ q. true_not_false (peopled p g k) q.1 empty)
          (lead_share k l lb h)

      by : (l : ℕ) → l < g.count → (eqb (lead l) k ≡ true) ⊎ (eqb (lead l) k ≡ false) →
          counted (eqb (lead l) k) (share l) ≤ counted (of_tree k l) (amount (cuts k) (λ d. eqb d.group l))
      by l lb (inr h) = omega (arith, counted_false h (share l))
      by l lb (inl h) =
          ⊎_elim
          (λ z. omega (arith, counted_true h (share l), z))
          (λ q.
          omega (
            arith,
            counted_true h (share l),
            counted_true (and_both (ltb l g.count) (eqb (lead l) k) (lt-ltb l g.count lb) h) (amount (cuts k) (λ d. eqb d.group l)),
            certified.covers k l q.0 lb q.1 q.2,
          ))
          (lead_share k l lb h)

      whole : (peopled p g k ≡ true) ⊎ (peopled p g k ≡ false) →
          sum_below g.count (λ l. counted (eqb (lead l) k) (share l)) ≤ sum_below p.edges (λ e. counted (tree_of k e) (p.weight e))
      whole (inr empty) =
          omega (
            arith,
            sum_zero g.count (λ l. counted (eqb (lead l) k) (share l)) (λ l lb. empty_share empty l lb (either (eqb (lead l) k))),
          )
      whole (inl some) =
          omega (
            arith,
            sum_le g.count (λ l. counted (eqb (lead l) k) (share l)) (λ l. counted (of_tree k l) (amount (cuts k) (λ d. eqb d.group l)))
                (λ l lb. by l lb (either (eqb (lead l) k))),
            amount_groups g.count (of_tree k) (cuts k),
            tree_duality p.first p.second p.edges (tree_of k) (λ e h. in_range e (tree_edge k e h)) (g.root k) (λ d. of_tree k d.group) p.weight (cuts k)
                (each_map (λ d h c. parted k d h c) (certified.rooted k kb some))
                (λ e h. certified.fits k kb some e (set e (tree_edge k e h)).0 (set e (tree_edge k e h)).1),
          )

  -- The shares come to at most the cost of any set that joins every group.
  pub directed_duality : sum_below g.count share ≤ cost p F
  unfolding cost tree_of
  directed_duality =
      omega (
        arith,
        sum_le g.count share (λ l. sum_below g.count (λ k. counted (eqb (lead l) k) (share l))) (λ l lb. own l lb (either (peopled p g l))),
        sum_swap g.count g.count (λ l k. counted (eqb (lead l) k) (share l)),
        sum_le g.count (λ k. sum_below g.count (λ l. counted (eqb (lead l) k) (share l)))
            (λ k. sum_below p.edges (λ e. counted (F e && eqb (owner (label_of p F (p.first e))) k) (p.weight e))) tree_share,
        sum_swap g.count p.edges (λ k e. counted (F e && eqb (owner (label_of p F (p.first e))) k) (p.weight e)),
        sum_le p.edges (λ e. sum_below g.count (λ k. counted (F e && eqb (owner (label_of p F (p.first e))) k) (p.weight e)))
            (λ e. counted (F e) (p.weight e)) (λ e b. one_of g.count (owner (label_of p F (p.first e))) (p.weight e) (F e)),
      )
    where
      own : (l : ℕ) → l < g.count → (peopled p g l ≡ true) ⊎ (peopled p g l ≡ false) →
          share l ≤ sum_below g.count (λ k. counted (eqb (lead l) k) (share l))
      own l lb (inr empty) = omega (arith, certified.idle l lb empty)
      own l lb (inl some) =
          let low : lead l ≤ l = (lead_is l lb some).1 in
          omega (
            arith,
            sum_member g.count (λ k. counted (eqb (lead l) k) (share l)) (lead l) (omega arith),
            counted_true (eq-eqb (lead l) (lead l) refl) (share l),
          )
