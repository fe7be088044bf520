-- What 18 finds at a pair, case by case, and what pairs without it are (document 02, No. 2).
use Rattle.std.specs.Prelude.{ℕ, ◌-◌, ◌<◌, ◌≤◌, ◌≡◌, true, false, List, length, ltb}
use native.Mathlib.Omega.{arith}
use Rattle.std.proofs.Common.{ap, ◌∙◌}
use Rattle.std.proofs.Math.ListN.{get_or}
use borrow.Author.Tests.{eq-eqb, ne_eqb, lt-ltb, le-ltb, le-leb, lt-leb, eqb-false, leb-false, not-false}
use Rattle.base_limits.specs.Limits.{max_pairs}
use Rattle.base_limits.specs.Verdict.{refuse_if, ◌before◌}
use Rattle.base_limits.specs.declared.Verdict.TheVariants.{Fine, Refused}
use Rattle.base_limits.specs.Laws.Verdict.{fine_left, fine_right, fine_refuse, lowest_none, none_lowest}
use Rattle.survey_core.specs.Lists.{Lists, own, owner, other}
use Rattle.survey_core.specs.Pairs.{is_rising, pair_refusal, pairs_refusal, PairSound, PairsSound}

-- ---- rising order

module _ (owners others : List ℕ) (i : ℕ) where
  pub rising_first : i ≡ 0 → is_rising owners others i ≡ true
  unfolding is_rising
  rising_first e = rw (eq-eqb i 0 e)

  module _ (later : i ≡ 0 → ⊥) where
    pub rising_vertex : get_or owners (i - 1) 0 < get_or owners i 0 → is_rising owners others i ≡ true
    unfolding is_rising
    rising_vertex h = rw (ne_eqb i 0 later, lt-ltb (get_or owners (i - 1) 0) (get_or owners i 0) h)

    pub falling_vertex : get_or owners i 0 < get_or owners (i - 1) 0 → is_rising owners others i ≡ false
    unfolding is_rising
    falling_vertex h =
        let w : get_or owners i 0 ≤ get_or owners (i - 1) 0 = omega arith in
        let d : get_or owners (i - 1) 0 ≡ get_or owners i 0 → ⊥ = omega arith in
        rw (ne_eqb i 0 later, le-ltb (get_or owners (i - 1) 0) (get_or owners i 0) w, ne_eqb (get_or owners (i - 1) 0) (get_or owners i 0) d)

    -- One vertex: the groups decide.
    module _ (h : get_or owners i 0 ≤ get_or owners (i - 1) 0) (k : get_or owners (i - 1) 0 ≤ get_or owners i 0) where
      by_group : is_rising owners others i ≡ ltb (get_or others (i - 1) 0) (get_or others i 0)
      unfolding is_rising
      by_group =
          let e : get_or owners (i - 1) 0 ≡ get_or owners i 0 = omega arith in
          rw (ne_eqb i 0 later, le-ltb (get_or owners (i - 1) 0) (get_or owners i 0) h, eq-eqb (get_or owners (i - 1) 0) (get_or owners i 0) e)

      pub rising_group : get_or others (i - 1) 0 < get_or others i 0 → is_rising owners others i ≡ true
      rising_group lower = by_group ∙ lt-ltb (get_or others (i - 1) 0) (get_or others i 0) lower

      pub falling_group : get_or others i 0 ≤ get_or others (i - 1) 0 → is_rising owners others i ≡ false
      falling_group upper = by_group ∙ le-ltb (get_or others (i - 1) 0) (get_or others i 0) upper

-- ---- one pair

-- The own group of o, read at v.
pub own_read : (groups : List ℕ) {v o x : ℕ} → v ≡ o → x ≡ get_or groups v 0 → x ≡ get_or groups o 0
own_read groups same is = is ∙ ap (λ k. get_or groups k 0) same

module _ (l : Lists) (i : ℕ) where
  pub pair_out : length l.groups ≤ owner l i → pair_refusal l i ≡ Refused 18 i
  unfolding pair_refusal refuse_if ◌before◌
  pair_out h = rw (le-leb (length l.groups) (owner l i) h)

  module _ (below : owner l i < length l.groups) where
    pub pair_none : other l i ≡ 0 → pair_refusal l i ≡ Refused 18 i
    unfolding pair_refusal refuse_if ◌before◌
    pair_none h = rw (lt-leb (length l.groups) (owner l i) below, eq-eqb (other l i) 0 h)

    module _ (some : other l i ≡ 0 → ⊥) where
      pub pair_own : other l i ≡ own l (owner l i) → pair_refusal l i ≡ Refused 18 i
      unfolding pair_refusal refuse_if ◌before◌
      pair_own h =
          rw (lt-leb (length l.groups) (owner l i) below, ne_eqb (other l i) 0 some, eq-eqb (other l i) (own l (owner l i)) h)

      module _ (foreign : other l i ≡ own l (owner l i) → ⊥) where
        pub pair_falls : is_rising l.owners l.others i ≡ false → pair_refusal l i ≡ Refused 18 i
        unfolding pair_refusal refuse_if ◌before◌
        pair_falls h =
            rw (
              lt-leb (length l.groups) (owner l i) below,
              ne_eqb (other l i) 0 some,
              ne_eqb (other l i) (own l (owner l i)) foreign,
              h,
            )

        pub pair_past : is_rising l.owners l.others i ≡ true → max_pairs ≤ i → pair_refusal l i ≡ Refused 18 i
        unfolding pair_refusal refuse_if ◌before◌
        pair_past r h =
            rw (
              lt-leb (length l.groups) (owner l i) below,
              ne_eqb (other l i) 0 some,
              ne_eqb (other l i) (own l (owner l i)) foreign,
              r,
              le-leb max_pairs i h,
            )

  pub pair_fine : PairSound l i → pair_refusal l i ≡ Fine
  unfolding pair_refusal refuse_if ◌before◌
  pair_fine h =
      rw (
        lt-leb (length l.groups) (owner l i) h.below,
        ne_eqb (other l i) 0 h.some,
        ne_eqb (other l i) (own l (owner l i)) h.foreign,
        h.rising,
        lt-leb max_pairs i h.few,
      )

  pub fine_pair : pair_refusal l i ≡ Fine → PairSound l i
  unfolding pair_refusal
  fine_pair h =
      let after_out = fine_right _ _ h in
      let after_none = fine_right _ _ after_out in
      let after_own = fine_right _ _ after_none in
      record {
        below = leb-false (length l.groups) (owner l i) (fine_refuse _ 18 i (fine_left _ _ h));
        some = eqb-false (other l i) 0 (fine_refuse _ 18 i (fine_left _ _ after_out));
        foreign = eqb-false (other l i) (own l (owner l i)) (fine_refuse _ 18 i (fine_left _ _ after_none));
        rising = not-false (is_rising l.owners l.others i) (fine_refuse _ 18 i (fine_left _ _ after_own));
        few = leb-false max_pairs i (fine_refuse _ 18 i (fine_right _ _ after_own));
      }

-- No finding exactly if every pair is sound.
pub pairs_fine : (l : Lists) → PairsSound l → pairs_refusal l ≡ Fine
unfolding pairs_refusal
pairs_fine l h = lowest_none (length l.owners) (pair_refusal l) (λ i b. pair_fine l i (h i b))

pub fine_pairs : (l : Lists) → pairs_refusal l ≡ Fine → PairsSound l
unfolding pairs_refusal
fine_pairs l h i b = fine_pair l i (none_lowest (length l.owners) (pair_refusal l) h i b)
