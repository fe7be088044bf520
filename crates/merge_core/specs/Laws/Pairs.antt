-- The pairs of the result, row by row. `append_if`, `append_row` and `collect_pairs` cite it.
use Rattle.std.specs.Prelude.{ℕ, zero, suc, ◌+◌, ◌*◌, ◌≤◌, ◌<◌, ◌≡◌, Bool, length, get_or, set, eqb}
use Rattle.std.proofs.Common.{add-one, ◌∙◌, length-append, eq-eqb, ne_eqb}
use native.Mathlib.Omega.{arith}
use Rattle.std.proofs.Math.Path.{refl, ap, sym}
use Rattle.std.proofs.Math.Bool.{true, false, cond, not}
use mathlib.Core.List.{List, [], ◌∷◌, ◌++◌, map, map-append, append_assoc, append-nil}
use Rattle.std.proofs.Math.ListN.{length-map}
use Rattle.std.proofs.lemmas.List.Edits.{sets}
use Rattle.base_finite.specs.Below.{counted, tabulate, those_below}
use Rattle.base_finite.specs.Laws.Below.{get_d_tabulate}
use Rattle.base_limits.specs.Limits.{group_numbers}
use Rattle.theory_route.specs.First.{first_below}
use Rattle.survey_core.specs.Lists.{Lists}
use Rattle.merge_rule.specs.Merged.{pair_vertex, pair_group}
use Rattle.merge_rule.proofs.Laws.Member.{split_vertex, split_group}
use Rattle.merge_core.specs.Row.{own_with, further_with}
use Rattle.merge_core.specs.Pairs.{standing_in, flagged, row_pairs, pairs_by}
use Rattle.merge_core.specs.Laws.Stored.{sets_append}

-- ---- those that pass

pub those_cong : (n : ℕ) (s t : ℕ → Bool) → ((i : ℕ) → i < n → s i ≡ t i) → those_below n s ≡ those_below n t
unfolding those_below
those_cong zero s t h = refl
those_cong (suc n) s t h = rw (those_cong n s t (λ i b. h i (omega arith)), h n (omega arith))

-- Those from n on, behind those below n.
pub those_add : (n k : ℕ) (t : ℕ → Bool) → those_below (n + k) t ≡ those_below n t ++ map (λ i. n + i) (those_below k (λ i. t (n + i)))
unfolding those_below
those_add n zero t = let e : n + 0 ≡ n = omega arith in ap (λ (m : ℕ). those_below m t) e ∙ sym (append-nil (those_below n t))
those_add n (suc k) t =
    let e : n + suc k ≡ suc (n + k) = omega arith in
    ap (λ (m : ℕ). those_below m t) e
    ∙ ap (λ (l : List ℕ). l ++ cond (t (n + k)) ((n + k) ∷ []) []) (those_add n k t)
    ∙ append_assoc (those_below n t) (map (λ i. n + i) (those_below k (λ i. t (n + i)))) (cond (t (n + k)) ((n + k) ∷ []) [])
    ∙ ap (λ (l : List ℕ). those_below n t ++ (map (λ i. n + i) (those_below k (λ i. t (n + i))) ++ l)) (last (t (n + k)))
    ∙ ap (λ (l : List ℕ). those_below n t ++ l) (sym (map-append (λ i. n + i) (those_below k (λ i. t (n + i))) (cond (t (n + k)) (k ∷ []) [])))
  where
    last : (b : Bool) → cond b ((n + k) ∷ []) [] ≡ map (λ i. n + i) (cond b (k ∷ []) [])
    last true = refl
    last false = refl

pub length_those : (n : ℕ) (t : ℕ → Bool) → length (those_below n t) ≤ n
unfolding those_below
length_those zero t = omega arith
length_those (suc n) t = omega (arith, length-append (those_below n t) (cond (t n) (n ∷ []) []), length_those n t, one (t n))
  where
    one : (b : Bool) → length (cond b (n ∷ []) []) ≤ 1
    one true = omega arith
    one false = omega arith

-- ---- one pair

module _ (pairs : List ℕ) (count flag pair : ℕ) where
  pub flag_off : flag ≡ 0 → (count ≡ count + length (flagged flag pair)) × (pairs ≡ sets pairs count (flagged flag pair))
  unfolding flagged
  flag_off h = rw (eq-eqb flag 0 h) (omega arith, refl)

  pub flag_on : {after : List ℕ} → (flag ≡ 0 → ⊥) → after ≡ set pairs count pair
      → (count + 1 ≡ count + length (flagged flag pair)) × (after ≡ sets pairs count (flagged flag pair))
  unfolding flagged
  flag_on h after_is = rw (ne_eqb flag 0 h) (omega arith, after_is)

-- ---- one row

module _ (row : List ℕ) (w : ℕ) where
  pub row_more : (g : ℕ) → row_pairs row w g ++ flagged (get_or row g 0) (w * group_numbers + g) ≡ row_pairs row w (g + 1)
  unfolding row_pairs flagged those_below
  row_more g =
      ap (λ (l : List ℕ). row_pairs row w g ++ l) (one (eqb (get_or row g 0) 0))
      ∙ sym (map-append (λ g. w * group_numbers + g) (those_below g (λ g. not (eqb (get_or row g 0) 0))) (cond (not (eqb (get_or row g 0) 0)) (g ∷ []) []))
      ∙ ap (row_pairs row w) (sym (add-one g))
    where
      one : (b : Bool) → cond b [] ((w * group_numbers + g) ∷ []) ≡ map (λ g. w * group_numbers + g) (cond (not b) (g ∷ []) [])
      one true = refl
      one false = refl

  pub length_row : (g : ℕ) → length (row_pairs row w g) ≤ g
  unfolding row_pairs
  length_row g =
      omega (
        arith,
        length-map (those_below g (λ g. not (eqb (get_or row g 0) 0))) (λ g. w * group_numbers + g),
        length_those g (λ g. not (eqb (get_or row g 0) 0)),
      )

-- Where a row's pairs below g stand behind `count` others.
pub record RowAt (row : List ℕ) (w : ℕ) (pairs : List ℕ) (count g : ℕ) (now : List ℕ) (next : ℕ) : Type 0 where
  pub within : g ≤ group_numbers
  pub counts : next ≡ count + length (row_pairs row w g)
  pub stands : now ≡ sets pairs count (row_pairs row w g)

pub row_start : (row : List ℕ) (w : ℕ) (pairs : List ℕ) (count : ℕ) → RowAt row w pairs count 0 pairs count
unfolding row_pairs those_below
row_start row w pairs count = record { within = omega arith; counts = omega arith; stands = refl }

pub row_turn : {row : List ℕ} {w : ℕ} {pairs : List ℕ} {count g : ℕ} {now : List ℕ} {next : ℕ} → RowAt row w pairs count g now next → g < group_numbers
    → {flag pair : ℕ} → flag ≡ get_or row g 0 → pair ≡ w * group_numbers + g → {after : List ℕ} {then : ℕ}
    → (then ≡ next + length (flagged flag pair)) × (after ≡ sets now next (flagged flag pair)) → RowAt row w pairs count (g + 1) after then
row_turn {row} {w} {pairs} {count} {g} {now} {next} h b {flag} {pair} flag_is pair_is {after} {then} made =
    record {
      within = omega arith;
      counts = omega (arith, made.0, h.counts, length-append (row_pairs row w g) (flagged flag pair), ap length more);
      stands =
          made.1
          ∙ ap (λ (l : List ℕ). sets l next (flagged flag pair)) h.stands
          ∙ ap (λ (k : ℕ). sets (sets pairs count (row_pairs row w g)) k (flagged flag pair)) h.counts
          ∙ sets_append (row_pairs row w g) (flagged flag pair) pairs count
          ∙ ap (sets pairs count) more;
    }
  where
    more : row_pairs row w g ++ flagged flag pair ≡ row_pairs row w (g + 1)
    more =
        ap (λ (x : ℕ). row_pairs row w g ++ flagged x pair) flag_is
        ∙ ap (λ (x : ℕ). row_pairs row w g ++ flagged (get_or row g 0) x) pair_is
        ∙ row_more row w g

pub row_end : {row : List ℕ} {w : ℕ} {pairs : List ℕ} {count g : ℕ} {now : List ℕ} {next : ℕ} → RowAt row w pairs count g now next → group_numbers ≤ g
    → (next ≡ count + length (row_pairs row w group_numbers)) × (now ≡ sets pairs count (row_pairs row w group_numbers))
row_end {row} {w} {pairs} {count} {g} {now} {next} h b =
    let e : g ≡ group_numbers = let x = h.within in omega arith in
    (h.counts ∙ ap (λ (k : ℕ). count + length (row_pairs row w k)) e, h.stands ∙ ap (λ (k : ℕ). sets pairs count (row_pairs row w k)) e)

-- ---- all rows

module _ (first second : Lists) (places : List ℕ) where
  standing : ℕ → ℕ
  standing w = standing_in places (length second.groups) w

  pub pairs_more : (w : ℕ) {v : ℕ} {row : List ℕ} → v ≡ standing_in places (length second.groups) w
      → row ≡ tabulate group_numbers (λ g. counted (further_with first second w v g) 1)
      → pairs_by first second places (w * group_numbers) ++ row_pairs row w group_numbers ≡ pairs_by first second places ((w + 1) * group_numbers)
  unfolding pairs_by row_pairs standing counted
  pairs_more w {v} {row} v_is row_is =
      ap (λ (l : List ℕ). pairs_by first second places (w * group_numbers) ++ map (λ g. w * group_numbers + g) l) (those_cong group_numbers _ _ same)
      ∙ sym (those_add (w * group_numbers) group_numbers (λ c. further_with first second (pair_vertex c) (standing (pair_vertex c)) (pair_group c)))
      ∙ ap (pairs_by first second places) next
    where
      next : w * group_numbers + group_numbers ≡ (w + 1) * group_numbers
      next = omega arith

      flag : (b : Bool) → not (eqb (counted b 1) 0) ≡ b
      flag true = refl
      flag false = refl

      same : (g : ℕ) → g < group_numbers → not (eqb (get_or row g 0) 0)
          ≡ further_with first second (pair_vertex (w * group_numbers + g)) (standing (pair_vertex (w * group_numbers + g))) (pair_group (w * group_numbers + g))
      same g b =
          ap (λ (l : List ℕ). not (eqb (get_or l g 0) 0)) row_is
          ∙ ap (λ (x : ℕ). not (eqb x 0)) (get_d_tabulate group_numbers (λ g. counted (further_with first second w v g) 1) g 0 b)
          ∙ flag (further_with first second w v g)
          ∙ ap (λ (x : ℕ). further_with first second w x g) v_is
          ∙ sym (ap (λ (x : ℕ). further_with first second x (standing x) (pair_group (w * group_numbers + g))) (split_vertex g w b)
          ∙ ap (λ (x : ℕ). further_with first second w (standing w) x) (split_group g w b))

  pub length_pairs : (k : ℕ) → length (pairs_by first second places k) ≤ k
  unfolding pairs_by
  length_pairs k = length_those k _

-- The pairs of the first w junctions stand in the buffer, as many as it holds, and are counted.
pub record PairsAt (first second : Lists) (places : List ℕ) (vertices : ℕ) (pairs : List ℕ) (w : ℕ) (now : List ℕ) (count : ℕ) : Type 0 where
  pub within : w ≤ vertices
  pub counts : count ≡ length (pairs_by first second places (w * group_numbers))
  pub stands : now ≡ sets pairs 0 (pairs_by first second places (w * group_numbers))

pub pairs_start : (first second : Lists) (places : List ℕ) (vertices : ℕ) (pairs : List ℕ) → PairsAt first second places vertices pairs 0 pairs 0
unfolding pairs_by those_below
pairs_start first second places vertices pairs = record { within = omega arith; counts = refl; stands = refl }

pub pairs_few : {first second : Lists} {places : List ℕ} {vertices : ℕ} {pairs : List ℕ} {w : ℕ} {now : List ℕ} {count : ℕ}
    → PairsAt first second places vertices pairs w now count → count ≤ w * group_numbers
pairs_few {first} {second} {places} {w = w} h = omega (arith, h.counts, length_pairs first second places (w * group_numbers))

pub pairs_turn : {first second : Lists} {places : List ℕ} {vertices : ℕ} {pairs : List ℕ} {w : ℕ} {now : List ℕ} {count : ℕ}
    → PairsAt first second places vertices pairs w now count → w < vertices → {v : ℕ} {row : List ℕ} → v ≡ first_below (length second.groups) (λ u. eqb (get_or places u 0) w)
    → row ≡ tabulate group_numbers (λ g. counted (further_with first second w v g) 1) → {after : List ℕ} {then : ℕ}
    → (then ≡ count + length (row_pairs row w group_numbers)) × (after ≡ sets now count (row_pairs row w group_numbers))
    → PairsAt first second places vertices pairs (w + 1) after then
unfolding standing_in
pairs_turn {first} {second} {places} {vertices} {pairs} {w} {now} {count} h b {v} {row} v_is row_is {after} {then} made =
    record {
      within = omega arith;
      counts = omega (arith, made.0, h.counts, length-append (pairs_by first second places (w * group_numbers)) (row_pairs row w group_numbers), ap length more);
      stands =
          made.1
          ∙ ap (λ (l : List ℕ). sets l count (row_pairs row w group_numbers)) h.stands
          ∙ ap (λ (k : ℕ). sets (sets pairs 0 (pairs_by first second places (w * group_numbers))) k (row_pairs row w group_numbers)) behind
          ∙ sets_append (pairs_by first second places (w * group_numbers)) (row_pairs row w group_numbers) pairs 0
          ∙ ap (sets pairs 0) more;
    }
  where
    more : pairs_by first second places (w * group_numbers) ++ row_pairs row w group_numbers ≡ pairs_by first second places ((w + 1) * group_numbers)
    more = pairs_more first second places w v_is row_is

    behind : count ≡ 0 + length (pairs_by first second places (w * group_numbers))
    behind = omega (arith, h.counts)

pub pairs_end : {first second : Lists} {places : List ℕ} {vertices : ℕ} {pairs : List ℕ} {w : ℕ} {now : List ℕ} {count : ℕ}
    → PairsAt first second places vertices pairs w now count → vertices ≤ w
    → (count ≡ length (pairs_by first second places (vertices * group_numbers))) × (now ≡ sets pairs 0 (pairs_by first second places (vertices * group_numbers)))
pairs_end {first} {second} {places} {vertices} {pairs} {w} {now} {count} h b =
    let e : w ≡ vertices = let x = h.within in omega arith in (
      h.counts ∙ ap (λ (k : ℕ). length (pairs_by first second places (k * group_numbers))) e,
      h.stands ∙ ap (λ (k : ℕ). sets pairs 0 (pairs_by first second places (k * group_numbers))) e,
    )

-- The own group of a junction, with the second's that stands there.
pub own_read : (groups second places : List ℕ) (w : ℕ) {v x : ℕ} → v ≡ first_below (length second) (λ u. eqb (get_or places u 0) w) → x ≡ own_with groups second w v
    → x ≡ own_with groups second w (standing_in places (length second) w)
unfolding standing_in
own_read groups second places w v_is x_is = x_is ∙ ap (own_with groups second w) v_is
