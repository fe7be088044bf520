-- The home of a vertex: its own group, or that of its first pair, or none; a vertex in any list is in its home. Pouring goes by homes.
use Prim.Native.Nat.{ℕ, zero, suc, ◌+◌, ◌<◌, ◌≤◌}
use native.Mathlib.Omega.{arith}
use Rattle.std.proofs.Common.{add-one, ap, ◌∙◌, inl, inr}
use Rattle.std.proofs.Math.Decide.{ℕ_discrete}
use Rattle.std.specs.Prelude.{◌≡◌, ◌⊎◌, Bool, ◌&&◌}
use Rattle.std.proofs.Math.Path.{refl, sym, subst}
use Rattle.std.proofs.Math.Bool.{true, false, cond, and-false}
use Rattle.std.proofs.Math.ListN.{length}
use Rattle.std.proofs.Math.Dec.{eqb}
use borrow.Author.Tests.{eq-eqb, ne_eqb}
use Rattle.base_finite.specs.Laws.Below.{lt_or_ge}
use Rattle.survey_core.specs.Lists.{Lists, own, owner, other, in_list}
use Rattle.survey_lists.specs.Pouring.{home_below, home}
use Rattle.survey_core.proofs.Laws.Lists.{PairAt, Listed, by_own, by_pair, in_list_some, in_list_elim, in_list_intro}

module _ (l : Lists) (v : ℕ) where
  pub home_stays : (i : ℕ) → (home_below l v i ≡ 0 → ⊥) → home_below l v (suc i) ≡ home_below l v i
  unfolding home_below
  home_stays i some = rw (ne_eqb (home_below l v i) 0 some)

  pub home_passed : (i : ℕ) → (owner l i ≡ v → ⊥) → home_below l v (suc i) ≡ home_below l v i
  unfolding home_below
  home_passed i d = rw (ne_eqb (owner l i) v d, and-false (eqb (home_below l v i) 0))

  pub home_taken : (i : ℕ) → home_below l v i ≡ 0 → owner l i ≡ v → home_below l v (suc i) ≡ other l i
  unfolding home_below
  home_taken i none e = rw (eq-eqb (home_below l v i) 0 none, eq-eqb (owner l i) v e)

  -- Once there is a home it stays.
  home_lasts : (m i : ℕ) → i ≤ m → (home_below l v i ≡ 0 → ⊥) → home_below l v m ≡ home_below l v i
  home_lasts zero i b some = let e : i ≡ 0 = omega arith in ap (home_below l v) (sym e)
  home_lasts (suc m) i b some = by (lt_or_ge i (suc m)) (home_lasts m i)
    where
      by : (i < suc m) ⊎ (suc m ≤ i) → (i ≤ m → (home_below l v i ≡ 0 → ⊥) → home_below l v m ≡ home_below l v i)
          → home_below l v (suc m) ≡ home_below l v i
      by (inl c) ih =
          let e : home_below l v m ≡ home_below l v i = ih (omega arith) some in
          home_stays m (λ z. some (sym e ∙ z)) ∙ e
      by (inr c) ih = let e : i ≡ suc m = omega arith in ap (home_below l v) (sym e)

  -- A home is the own group or that of a pair.
  home_listed : (m : ℕ) → m ≤ length l.owners → (home_below l v m ≡ 0 → ⊥) → Listed l (home_below l v m) v
  unfolding home_below
  home_listed zero b some = by_own refl
  home_listed (suc i) b some = by (ℕ_discrete (home_below l v i) 0) (ℕ_discrete (owner l i) v) (home_listed i)
    where
      kept : home_below l v (suc i) ≡ home_below l v i → (i ≤ length l.owners → (home_below l v i ≡ 0 → ⊥) → Listed l (home_below l v i) v)
          → Listed l (home_below l v (suc i)) v
      kept e ih = subst (λ g. Listed l g v) (sym e) (ih (omega arith) (λ z. some (e ∙ z)))

      by : Dec (home_below l v i ≡ 0) → Dec (owner l i ≡ v)
          → (i ≤ length l.owners → (home_below l v i ≡ 0 → ⊥) → Listed l (home_below l v i) v) → Listed l (home_below l v (suc i)) v
      by (yes none) (yes e) ih = by_pair (record { at = i; below = omega arith; owner_is = e; other_is = sym (home_taken i none e) })
      by (yes none) (no d) ih = absurd (some (home_passed i d ∙ none))
      by (no d) e ih = kept (home_stays i d) ih

module _ (l : Lists) where
  pub home_own : (v : ℕ) → (own l v ≡ 0 → ⊥) → home l v ≡ own l v
  unfolding home home_below
  home_own v some = home_lasts l v (length l.owners) 0 (omega arith) some

  home_found : (g v : ℕ) → (g ≡ 0 → ⊥) → PairAt l g v → home l v ≡ 0 → ⊥
  unfolding home
  home_found g v some p none = by (ℕ_discrete (home_below l v p.at) 0)
    where
      lasts : (home_below l v (suc p.at) ≡ 0 → ⊥) → ⊥
      lasts new = let b = p.below in new (sym (home_lasts l v (length l.owners) (suc p.at) (omega arith) new) ∙ none)

      by : Dec (home_below l v p.at ≡ 0) → ⊥
      by (yes z) = lasts (λ e. some (sym p.other_is ∙ sym (home_taken l v p.at z p.owner_is) ∙ e))
      by (no d) = lasts (λ e. d (sym (home_stays l v p.at d) ∙ e))

  -- A vertex has a home exactly if it is in a list, and is in its home.
  pub in_list_home : (g v : ℕ) → in_list l g v ≡ true → home l v ≡ 0 → ⊥
  in_list_home g v h none = by (in_list_elim l g v h)
    where
      some : g ≡ 0 → ⊥
      some = in_list_some l g v h

      by : Listed l g v → ⊥
      by (by_own e) = some (sym e ∙ sym (home_own v (λ z. some (sym e ∙ z))) ∙ none)
      by (by_pair p) = home_found g v some p none

  pub home_in_list : (v : ℕ) → (home l v ≡ 0 → ⊥) → in_list l (home l v) v ≡ true
  unfolding home
  home_in_list v some = in_list_intro l (home l v) v some (home_listed l v (length l.owners) (omega arith) some)

  -- A home is a byte where the groups are, own and by pair.
  pub home_below_law : (N : ℕ) → ((v : ℕ) → own l v < N) → ((i : ℕ) → other l i < N) → (v m : ℕ) → home_below l v m < N
  unfolding home_below
  home_below_law N groups others v zero = groups v
  home_below_law N groups others v (suc i) = by (eqb (home_below l v i) 0 && eqb (owner l i) v) (home_below_law N groups others v i)
    where
      by : (t : Bool) → home_below l v i < N → cond t (other l i) (home_below l v i) < N
      by true h = others i
      by false h = h

-- ---- the search for a home

-- The pair of vertex o with group g, as v sees it.
pub pair_taken : {o v g found : ℕ} → o ≡ v → found ≡ g → found ≡ cond (eqb o v) g 0
pair_taken {o} {v} e is = rw (eq-eqb o v e) is

pub pair_passed : {o v : ℕ} (g : ℕ) → (o ≡ v → ⊥) → 0 ≡ cond (eqb o v) g 0
pair_passed {o} {v} g d = rw (ne_eqb o v d)

-- A loop over the pairs has found no home among the first i.
pub record Homeless (l : Lists) (v i : ℕ) : Type 0 where
  pub within : i ≤ length l.owners
  pub none : home_below l v i ≡ 0

module _ (l : Lists) (v : ℕ) where
  pub homeless_start : own l v ≡ 0 → Homeless l v 0
  unfolding home_below
  homeless_start e = record { within = omega arith; none = e }

  -- The next pair decides.
  home_next : (i : ℕ) → home_below l v i ≡ 0 → home_below l v (suc i) ≡ cond (eqb (owner l i) v) (other l i) 0
  unfolding home_below
  home_next i none = rw (eq-eqb (home_below l v i) 0 none, none)

  module _ {i found : ℕ} (h : Homeless l v i) (b : i < length l.owners) (is : found ≡ cond (eqb (owner l i) v) (other l i) 0) where
    pub homeless_turn : found ≡ 0 → Homeless l v (i + 1)
    homeless_turn none = record { within = omega arith; none = rw (add-one i) (home_next i h.none ∙ sym is ∙ none) }

    pub homeless_found : (found ≡ 0 → ⊥) → found ≡ home l v
    unfolding home
    homeless_found some =
        let e : home_below l v (suc i) ≡ found = home_next i h.none ∙ sym is in
        sym e ∙ sym (home_lasts l v (length l.owners) (suc i) (omega arith) (λ z. some (sym e ∙ z)))

  pub homeless_end : {i : ℕ} → Homeless l v i → length l.owners ≤ i → 0 ≡ home l v
  unfolding home
  homeless_end {i} h b = let w : i ≤ length l.owners = h.within in let e : length l.owners ≡ i = omega arith in rw e (sym h.none)
