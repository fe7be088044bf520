-- What it is that a vertex is a member of a list, and that two are in one: by its own group, or by a pair (document 02, No. 2).
use Rattle.std.specs.Prelude.{ℕ, ◌<◌, ◌≡◌, Bool, ◌&&◌, ◌||◌, not, [], length}
use Rattle.std.proofs.Math.Path.{refl}
use Rattle.std.proofs.Common.{sym, subst}
use Rattle.std.proofs.Math.Logic.{⊎_elim}
use Rattle.std.proofs.Math.Bool.{true}
use Rattle.std.proofs.Math.Dec.{eqb}
use borrow.Author.Tests.{eq-eqb, ne_eqb, eqb-true, eqb-false, not-true}
use Rattle.base_finite.specs.Below.{any_below}
use Rattle.base_finite.specs.Laws.Below.{any_intro, any_elim, Found}
use Rattle.base_finite.specs.Laws.Test.{and_left, and_right, and_both, or_cases, or_left, or_right, not_of_false}
use Rattle.survey_core.specs.Lists.{Lists, own, owner, other, is_paired, in_list, same_list}

-- Pair `at` is (v, g).
pub record PairAt (l : Lists) (g v : ℕ) : Type 0 where
  pub at : ℕ
  pub below : at < length l.owners
  pub owner_is : owner l at ≡ v
  pub other_is : other l at ≡ g

pub data Listed (l : Lists) (g v : ℕ) : Type 0 where
  by_own : own l v ≡ g → Listed l g v
  by_pair : PairAt l g v → Listed l g v

module _ (l : Lists) where
  -- The test of `is_paired` at pair i.
  abbrev pair_test : (g v i : ℕ) → Bool
  pair_test g v i = eqb (owner l i) v && eqb (other l i) g

  paired_elim : (g v : ℕ) → is_paired l g v ≡ true → PairAt l g v
  unfolding is_paired
  paired_elim g v h =
      let f : Found (length l.owners) (pair_test g v) = any_elim (length l.owners) (pair_test g v) h in
      record {
        at = f.at;
        below = f.below;
        owner_is = eqb-true (owner l f.at) v (and_left (eqb (owner l f.at) v) (eqb (other l f.at) g) f.passes);
        other_is = eqb-true (other l f.at) g (and_right (eqb (owner l f.at) v) (eqb (other l f.at) g) f.passes);
      }

  paired_intro : (g v : ℕ) → PairAt l g v → is_paired l g v ≡ true
  unfolding is_paired
  paired_intro g v p =
      any_intro (length l.owners) (pair_test g v) p.at p.below
      (and_both (eqb (owner l p.at) v) (eqb (other l p.at) g) (eq-eqb (owner l p.at) v p.owner_is) (eq-eqb (other l p.at) g p.other_is))

  -- Membership, taken apart and made.
  pub in_list_some : (g v : ℕ) → in_list l g v ≡ true → g ≡ 0 → ⊥
  unfolding in_list
  in_list_some g v h = eqb-false g 0 (not-true (eqb g 0) (and_left (not (eqb g 0)) (is_paired l g v || eqb (own l v) g) h))

  pub in_list_elim : (g v : ℕ) → in_list l g v ≡ true → Listed l g v
  unfolding in_list
  in_list_elim g v h =
      ⊎_elim
      (λ p. by_pair (paired_elim g v p))
      (λ e. by_own (eqb-true (own l v) g e))
      (or_cases (is_paired l g v) (eqb (own l v) g) (and_right (not (eqb g 0)) (is_paired l g v || eqb (own l v) g) h))

  in_list_made : (g v : ℕ) → (g ≡ 0 → ⊥) → (is_paired l g v || eqb (own l v) g) ≡ true → in_list l g v ≡ true
  unfolding in_list
  in_list_made g v some h = and_both (not (eqb g 0)) (is_paired l g v || eqb (own l v) g) (not_of_false (eqb g 0) (ne_eqb g 0 some)) h

  pub in_list_intro : (g v : ℕ) → (g ≡ 0 → ⊥) → Listed l g v → in_list l g v ≡ true
  in_list_intro g v some (by_own e) = in_list_made g v some (or_right (is_paired l g v) (eqb (own l v) g) (eq-eqb (own l v) g e))
  in_list_intro g v some (by_pair p) = in_list_made g v some (or_left (is_paired l g v) (eqb (own l v) g) (paired_intro g v p))

-- One list that holds u and v.
pub record Both (l : Lists) (u v : ℕ) : Type 0 where
  pub list : ℕ
  pub first : in_list l list u ≡ true
  pub second : in_list l list v ≡ true

module _ (l : Lists) where
  -- The test of `same_list` at pair i.
  abbrev same_test : (u v i : ℕ) → Bool
  same_test u v i = eqb (owner l i) u && in_list l (other l i) v

  -- Two vertices are in the same list exactly if some list holds both.
  pub same_list_elim : (u v : ℕ) → same_list l u v ≡ true → Both l u v
  unfolding same_list
  same_list_elim u v h =
      ⊎_elim
      (λ p.
      let f : Found (length l.owners) (same_test u v) = any_elim (length l.owners) (same_test u v) p in
      let m : in_list l (other l f.at) v ≡ true = and_right (eqb (owner l f.at) u) (in_list l (other l f.at) v) f.passes in
      let e : owner l f.at ≡ u = eqb-true (owner l f.at) u (and_left (eqb (owner l f.at) u) (in_list l (other l f.at) v) f.passes) in
      record {
        list = other l f.at;
        first =
            in_list_intro l (other l f.at) u (in_list_some l (other l f.at) v m)
            (by_pair (record { at = f.at; below = f.below; owner_is = e; other_is = refl }));
        second = m;
      })
      (λ m. record { list = own l u; first = in_list_intro l (own l u) u (in_list_some l (own l u) v m) (by_own refl); second = m })
      (or_cases (any_below (length l.owners) (same_test u v)) (in_list l (own l u) v) h)

  pub same_list_intro : (g u v : ℕ) → in_list l g u ≡ true → in_list l g v ≡ true → same_list l u v ≡ true
  unfolding same_list
  same_list_intro g u v h k = by (in_list_elim l g u h)
    where
      by : Listed l g u → (any_below (length l.owners) (same_test u v) || in_list l (own l u) v) ≡ true
      by (by_own e) =
          or_right (any_below (length l.owners) (same_test u v)) (in_list l (own l u) v) (subst (λ x. in_list l x v ≡ true) (sym e) k)
      by (by_pair p) =
          or_left (any_below (length l.owners) (same_test u v)) (in_list l (own l u) v)
          (any_intro (length l.owners) (same_test u v) p.at p.below
          (and_both (eqb (owner l p.at) u) (in_list l (other l p.at) v) (eq-eqb (owner l p.at) u p.owner_is)
          (subst (λ x. in_list l x v ≡ true) (sym p.other_is) k)))

  pub same_list_symmetric : (u v : ℕ) → same_list l u v ≡ true → same_list l v u ≡ true
  same_list_symmetric u v h = let b : Both l u v = same_list_elim u v h in same_list_intro b.list v u b.second b.first
