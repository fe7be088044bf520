-- Two junctions of one group of the ascent are in one poured group: a group's number is that of one of its lists, and a list lies in one group.
use Prim.Native.Nat.{ℕ, zero, suc, ◌≤◌, ◌<◌}
use Rattle.std.proofs.Common.{arith, sym, ◌∙◌, subst, inl, inr, ⊎_elim, eqb-true}
use Rattle.std.specs.Prelude.{◌≡◌, refl, ◌⊎◌, Bool, true, false, ◌||◌, cond, length, get_or, eqb, ltb}
use Rattle.std.proofs.Math.ListN.{get_or-eq_default}
use Rattle.base_finite.specs.Below.{counted}
use Rattle.base_finite.specs.Laws.Test.{either}
use Rattle.base_finite.specs.Laws.Below.{lt_or_ge, length_tabulate, get_d_tabulate}
use Rattle.survey_core.specs.Lists.{Lists, owner, in_list}
use Rattle.survey_core.specs.Pairs.{PairsSound}
use Rattle.survey_core.specs.Survey.{Survey, lists_of, same_group}
use Rattle.survey_core.proofs.Laws.Lists.{by_own, by_pair, in_list_intro}
use Rattle.survey_core.proofs.Laws.Member.{member_intro}
use Rattle.survey_core.proofs.Laws.Group.{members_same_group}
use Rattle.survey_lists.specs.Pouring.{same, ChainLinked, poured, poured_groups, poured_survey}
use Rattle.survey_lists.proofs.Laws.Pouring.{poured_iff, get_d_poured}
use Rattle.floor_rule.specs.Number.{lower_number, lowest_own, lowest_paired, number_of, numbered_groups}

lower_either : (x y : ℕ) → (lower_number x y ≡ x) ⊎ (lower_number x y ≡ y)
unfolding lower_number
lower_either x y = by (eqb y 0) (eqb x 0 || ltb y x)
  where
    by : (t u : Bool) → (cond t x (cond u y x) ≡ x) ⊎ (cond t x (cond u y x) ≡ y)
    by true u = inl refl
    by false true = inr refl
    by false false = inl refl

pub lower_below : (k x y : ℕ) → x < k → y < k → lower_number x y < k
lower_below k x y bx by = ⊎_elim (λ e. omega (arith, e)) (λ e. omega (arith, e)) (lower_either x y)

counted_some : (t : Bool) (x : ℕ) → (counted t x ≡ 0 → ⊥) → (t ≡ true) × (counted t x ≡ x)
unfolding counted
counted_some true x some = (refl, refl)
counted_some false x some = absurd (some refl)

module _ (l : Lists) where
  -- A member of list g is in poured group c.
  record Named (c g : ℕ) : Type 0 where
    at : ℕ
    below : at < length l.groups
    listed : in_list l g at ≡ true
    pours : get_or (poured_groups l) at 0 ≡ c

  own_named : (c n : ℕ) → n ≤ length l.groups → (lowest_own (poured_groups l) l.groups c n ≡ 0 → ⊥) → Named c (lowest_own (poured_groups l) l.groups c n)
  unfolding lowest_own
  own_named c zero b some = absurd (some refl)
  own_named c (suc v) b some = by (λ h. own_named c v (omega arith) h) (lower_either before new)
    where
      before : ℕ
      before = lowest_own (poured_groups l) l.groups c v

      new : ℕ
      new = counted (eqb (get_or (poured_groups l) v 0) c) (get_or l.groups v 0)

      by : ((before ≡ 0 → ⊥) → Named c before) → (lower_number before new ≡ before) ⊎ (lower_number before new ≡ new) → Named c (lower_number before new)
      by earlier (inl e) = subst (Named c) (sym e) (earlier (λ z. some (e ∙ z)))
      by earlier (inr e) =
          let nonzero : new ≡ 0 → ⊥ = λ z. some (e ∙ z) in
          let counts = counted_some (eqb (get_or (poured_groups l) v 0) c) (get_or l.groups v 0) nonzero in
          subst (Named c) (sym e)
          (record {
            at = v;
            below = omega arith;
            listed = in_list_intro l new v nonzero (by_own (sym counts.1));
            pours = eqb-true (get_or (poured_groups l) v 0) c counts.0;
          })

  paired_named : PairsSound l → (c i : ℕ) → i ≤ length l.owners → (lowest_paired (poured_groups l) l.groups l.owners l.others c i ≡ 0 → ⊥)
      → Named c (lowest_paired (poured_groups l) l.groups l.owners l.others c i)
  unfolding lowest_paired
  paired_named sound c zero b some = own_named c (length l.groups) (omega arith) some
  paired_named sound c (suc i) b some = by (λ h. paired_named sound c i (omega arith) h) (lower_either before new)
    where
      before : ℕ
      before = lowest_paired (poured_groups l) l.groups l.owners l.others c i

      new : ℕ
      new = counted (eqb (get_or (poured_groups l) (get_or l.owners i 0) 0) c) (get_or l.others i 0)

      by : ((before ≡ 0 → ⊥) → Named c before) → (lower_number before new ≡ before) ⊎ (lower_number before new ≡ new) → Named c (lower_number before new)
      by earlier (inl e) = subst (Named c) (sym e) (earlier (λ z. some (e ∙ z)))
      by earlier (inr e) =
          let nonzero : new ≡ 0 → ⊥ = λ z. some (e ∙ z) in
          let counts = counted_some (eqb (get_or (poured_groups l) (get_or l.owners i 0) 0) c) (get_or l.others i 0) nonzero in
          subst (Named c) (sym e)
          (record {
            at = owner l i;
            below = (sound i (omega arith)).below;
            listed = in_list_intro l new (owner l i) nonzero (by_pair (record { at = i; below = omega arith; owner_is = refl; other_is = sym counts.1 }));
            pours = eqb-true (get_or (poured_groups l) (get_or l.owners i 0) 0) c counts.0;
          })

  abbrev number_for : ℕ → ℕ
  number_for c = number_of (poured_groups l) l.groups l.owners l.others c

  number_named : PairsSound l → (c : ℕ) → (number_of (poured_groups l) l.groups l.owners l.others c ≡ 0 → ⊥)
      → Named c (number_of (poured_groups l) l.groups l.owners l.others c)
  unfolding number_of
  number_named sound c some = by (either (eqb c 0))
    where
      lowest : ℕ
      lowest = lowest_paired (poured_groups l) l.groups l.owners l.others c (length l.owners)

      by : (eqb c 0 ≡ true) ⊎ (eqb c 0 ≡ false) → Named c (cond (eqb c 0) 0 lowest)
      by (inl z) = absurd (some (rw z refl))
      by (inr z) = rw z (paired_named sound c (length l.owners) (omega arith) (λ e. some (rw z e)))

  pub length_numbered : length (numbered_groups l) ≡ length l.groups
  unfolding numbered_groups
  length_numbered = length_tabulate (length l.groups) _

  numbered_at : (v : ℕ) → v < length l.groups
      → get_or (numbered_groups l) v 0 ≡ number_of (poured_groups l) l.groups l.owners l.others (get_or (poured_groups l) v 0)
  unfolding numbered_groups
  numbered_at v b = get_d_tabulate (length l.groups) (λ u. number_for (get_or (poured_groups l) u 0)) v 0 b

  numbered_past : (v : ℕ) → length l.groups ≤ v → get_or (numbered_groups l) v 0 ≡ 0
  numbered_past v b = get_or-eq_default (numbered_groups l) 0 {n = v} (subst (λ n. n ≤ v) (sym length_numbered) b)

  -- One number, one poured group.
  numbers_apart : PairsSound l → (u v : ℕ) → u < length l.groups → v < length l.groups → get_or (numbered_groups l) u 0 ≡ get_or (numbered_groups l) v 0 → (get_or (numbered_groups l) u 0 ≡ 0 → ⊥)
      → (get_or (poured_groups l) u 0 ≡ get_or (poured_groups l) v 0) × (get_or (poured_groups l) u 0 ≡ 0 → ⊥)
  numbers_apart sound u v bu bv e some =
      let x : Named (get_or (poured_groups l) u 0) (number_for (get_or (poured_groups l) u 0)) = number_named sound (get_or (poured_groups l) u 0) (λ z. some (numbered_at u bu ∙ z)) in
      let y : Named (get_or (poured_groups l) v 0) (number_for (get_or (poured_groups l) v 0)) = number_named sound (get_or (poured_groups l) v 0) (λ z. some (e ∙ numbered_at v bv ∙ z)) in
      let number : number_for (get_or (poured_groups l) v 0) ≡ number_for (get_or (poured_groups l) u 0) = sym (numbered_at v bv) ∙ sym e ∙ numbered_at u bu in
      let chain : ChainLinked l x.at y.at =
      record {
        from = number_for (get_or (poured_groups l) u 0);
        to = number_for (get_or (poured_groups l) u 0);
        member_from = x.listed;
        member_to = subst (λ g. in_list l g y.at ≡ true) number y.listed;
        chain = same;
      } in
      let together = (poured_iff l sound x.at y.at).1 chain in
      let px : poured l x.at ≡ get_or (poured_groups l) u 0 = sym (get_d_poured l x.at x.below) ∙ x.pours in
      let py : poured l y.at ≡ get_or (poured_groups l) v 0 = sym (get_d_poured l y.at y.below) ∙ y.pours in
      (sym px ∙ together.0 ∙ py, λ z. together.1 (px ∙ z))

-- A group of the ascent is required to be joined.
pub numbered_required : (s : Survey) → PairsSound (lists_of s) → (u v : ℕ) → get_or (numbered_groups (lists_of s)) u 0 ≡ get_or (numbered_groups (lists_of s)) v 0
    → (get_or (numbered_groups (lists_of s)) u 0 ≡ 0 → ⊥) → same_group (poured_survey s) u v ≡ true
numbered_required s sound u v e some = by (lt_or_ge u (length s.groups)) (lt_or_ge v (length s.groups))
  where
    by : (u < length s.groups) ⊎ (length s.groups ≤ u) → (v < length s.groups) ⊎ (length s.groups ≤ v) → same_group (poured_survey s) u v ≡ true
    by (inr b) c = absurd (some (numbered_past (lists_of s) u b))
    by (inl b) (inr c) = absurd (some (e ∙ numbered_past (lists_of s) v c))
    by (inl b) (inl c) =
        let one = numbers_apart (lists_of s) sound u v b c e some in
        let g : ℕ = get_or (poured_groups (lists_of s)) u 0 in
        members_same_group (poured_survey s) g u v (member_intro (poured_survey s) g u one.1 refl) (member_intro (poured_survey s) g v one.1 (sym one.0))
