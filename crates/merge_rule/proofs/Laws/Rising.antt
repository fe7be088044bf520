-- Lists of rising numbers: two that hold the same numbers are one list; and the pairs of a sound survey, as numbers, rise (document 02, No. 2 and No. 9).
use Rattle.std.specs.Prelude.{ℕ, zero, suc, ◌+◌, ◌*◌, ◌-◌, ◌<◌, ◌≤◌, ◌≡◌, refl, ◌⊎◌, true, ◌&&◌, List, [], ◌∷◌, ◌++◌, length, get_or, eqb, ltb}
use Rattle.std.proofs.Common.{arith, ap, sym, ◌∙◌, inl, inr, ⊎_elim, length-append, get_or-append-add, ltb-true, eqb-true, ne_eqb}
use Rattle.std.proofs.Math.ListN.{get_or-append}
use Rattle.base_finite.specs.Below.{tabulate}
use Rattle.base_finite.specs.Laws.Below.{below_suc, lt_or_ge, length_tabulate, get_d_tabulate}
use Rattle.base_finite.specs.Laws.Test.{or_cases, and_left, and_right}
use Rattle.base_limits.specs.Limits.{group_numbers}
use Rattle.survey_core.specs.Survey.{Survey}
use Rattle.survey_core.specs.Sound.{ByteGroups, SurveySound}
use Rattle.survey_core.specs.Pairs.{is_rising}
use Rattle.merge_rule.proofs.Laws.Those.{At}

abbrev pub Rising : List ℕ → Type 0
Rising l = (i j : ℕ) → i < j → j < length l → get_or l i 0 < get_or l j 0

-- The element at i of a longer list.
at_next : {l : List ℕ} (x : ℕ) {y : ℕ} → At l y → At (x ∷ l) y
at_next x a = record { at = suc a.at; below = let b = a.below in omega arith; is = a.is }

at_cases : {l : List ℕ} {x y : ℕ} → At (x ∷ l) y → (x ≡ y) ⊎ At l y
at_cases {l} {x} {y} a = by a.at a.below a.is
  where
    by : (i : ℕ) → i < length (x ∷ l) → get_or (x ∷ l) i 0 ≡ y → (x ≡ y) ⊎ At l y
    by zero b e = inl e
    by (suc i) b e = inr (record { at = i; below = omega arith; is = e })

-- An element of two lists, one behind the other.
pub at_left : (l r : List ℕ) {x : ℕ} → At l x → At (l ++ r) x
at_left l r a =
    record {
      at = a.at;
      below = let b = a.below in let e = length-append l r in omega arith;
      is = get_or-append l r 0 a.at a.below ∙ a.is;
    }

pub at_right : (l r : List ℕ) {x : ℕ} → At r x → At (l ++ r) x
at_right l r a =
    record {
      at = length l + a.at;
      below = let b = a.below in let e = length-append l r in omega arith;
      is = get_or-append-add l r a.at 0 ∙ a.is;
    }

pub at_either : (l r : List ℕ) {x : ℕ} → At (l ++ r) x → At l x ⊎ At r x
at_either l r {x} a = ⊎_elim (λ c. inl (record { at = a.at; below = c; is = sym (get_or-append l r 0 a.at c) ∙ a.is })) (λ c. inr (behind c)) (lt_or_ge a.at (length l))
  where
    behind : length l ≤ a.at → At r x
    behind c =
        let e : length l + (a.at - length l) ≡ a.at = omega arith in
        record {
          at = a.at - length l;
          below = let b = a.below in let d = length-append l r in omega arith;
          is = sym (get_or-append-add l r (a.at - length l) 0) ∙ ap (λ k. get_or (l ++ r) k 0) e ∙ a.is;
        }

at_none : {A : Type 0} {y : ℕ} → At [] y → A
at_none a = absurd (let b = a.below in omega arith)

at_here : (x : ℕ) (l : List ℕ) → At (x ∷ l) x
at_here x l = record { at = 0; below = omega arith; is = refl }

-- A rising list's first is its least.
first_least : (x : ℕ) (l : List ℕ) → Rising (x ∷ l) → {y : ℕ} → At l y → x < y
first_least x l h a = let c : x < get_or l a.at 0 = h 0 (suc a.at) (omega arith) (let b = a.below in omega arith) in let e = a.is in omega arith

pub rising_same : (l r : List ℕ) → Rising l → Rising r → ((x : ℕ) → At l x → At r x) → ((x : ℕ) → At r x → At l x) → l ≡ r
rising_same [] [] rl rr to from = refl
rising_same [] (y ∷ r) rl rr to from = at_none (from y (at_here y r))
rising_same (x ∷ l) [] rl rr to from = at_none (to x (at_here x l))
rising_same (x ∷ l) (y ∷ r) rl rr to from =
    let ih : l ≡ r =
    rising_same l r (λ i j c b. rl (suc i) (suc j) (omega arith) (omega arith)) (λ i j c b. rr (suc i) (suc j) (omega arith) (omega arith))
    (λ z a.
    ⊎_elim (λ e. absurd (let c = first_least x l rl a in let s = same in omega arith)) (λ k. k) (at_cases (to z (at_next x a))))
    (λ z a.
    ⊎_elim (λ e. absurd (let c = first_least y r rr a in let s = same in omega arith)) (λ k. k) (at_cases (from z (at_next y a)))) in
    rw (same, ih)
  where
    y_le : y ≤ x
    y_le = ⊎_elim (λ e. omega arith) (λ a. let c = first_least y r rr a in omega arith) (at_cases (to x (at_here x l)))

    x_le : x ≤ y
    x_le = ⊎_elim (λ e. omega arith) (λ a. let c = first_least x l rl a in omega arith) (at_cases (from y (at_here y r)))

    same : x ≡ y
    same = omega (arith, y_le, x_le)

-- ---- lists that rise

-- From one to the next is enough.
pub steps_rise : (l : List ℕ) → ((i : ℕ) → suc i < length l → get_or l i 0 < get_or l (suc i) 0) → Rising l
steps_rise l h i zero c b = absurd (omega arith)
steps_rise l h i (suc j) c b =
    let step : get_or l j 0 < get_or l (suc j) 0 = h j b in
    ⊎_elim
    (λ d. let ih : get_or l i 0 < get_or l j 0 = steps_rise l h i j d (omega arith) in omega arith)
    (λ e. rw e step)
    (below_suc i j c)

-- One behind the other, if all of the first are below all of the second.
pub append_rises : (l r : List ℕ) (bound : ℕ) → Rising l → Rising r → ((i : ℕ) → i < length l → get_or l i 0 < bound) → ((i : ℕ) → i < length r → bound ≤ get_or r i 0)
    → Rising (l ++ r)
append_rises l r bound rl rr low high i j c b = ⊎_elim both_left right (lt_or_ge j (length l))
  where
    left_at : (k : ℕ) → k < length l → get_or (l ++ r) k 0 ≡ get_or l k 0
    left_at k d = get_or-append l r 0 k d

    right_at : (k : ℕ) → length l ≤ k → get_or (l ++ r) k 0 ≡ get_or r (k - length l) 0
    right_at k d = let e : k ≡ length l + (k - length l) = omega arith in ap (λ x. get_or (l ++ r) x 0) e ∙ get_or-append-add l r (k - length l) 0

    inside : (k : ℕ) → length l ≤ k → k < length (l ++ r) → k - length l < length r
    inside k d e = omega (arith, length-append l r)

    both_left : j < length l → get_or (l ++ r) i 0 < get_or (l ++ r) j 0
    both_left d = let e : i < length l = omega arith in rw (left_at i e, left_at j d) (rl i j c d)

    right : length l ≤ j → get_or (l ++ r) i 0 < get_or (l ++ r) j 0
    right d =
        ⊎_elim
        (λ e. rw (left_at i e, right_at j d) (omega (arith, low i e, high (j - length l) (inside j d b))))
        (λ e. rw (right_at i e, right_at j d) (rr (i - length l) (j - length l) (omega arith) (inside j d b)))
        (lt_or_ge i (length l))

-- ---- pairs of a sound survey

-- Its pairs as numbers, each junction moved up by n.
unfoldable pub pair_numbers : (n : ℕ) → Survey → List ℕ
pair_numbers n s = tabulate (length s.owners) (λ i. (n + get_or s.owners i 0) * group_numbers + get_or s.others i 0)

pub pairs_length : (n : ℕ) (s : Survey) → length (pair_numbers n s) ≡ length s.owners
unfolding pair_numbers
pairs_length n s = length_tabulate (length s.owners) _

pub pair_number : (n : ℕ) (s : Survey) (i : ℕ) → i < length s.owners
    → get_or (pair_numbers n s) i 0 ≡ (n + get_or s.owners i 0) * group_numbers + get_or s.others i 0
unfolding pair_numbers
pair_number n s i h = get_d_tabulate (length s.owners) _ i 0 h

-- What rising order says of two neighbours.
rising_elim : (owners others : List ℕ) (i : ℕ) → is_rising owners others (suc i) ≡ true
    → (get_or owners i 0 < get_or owners (suc i) 0) ⊎ ((get_or owners i 0 ≡ get_or owners (suc i) 0) × (get_or others i 0 < get_or others (suc i) 0))
unfolding is_rising
rising_elim owners others i h =
    let v = get_or owners i 0 in
    let w = get_or owners (suc i) 0 in
    let f = get_or others i 0 in
    let g = get_or others (suc i) 0 in
    let later : suc i ≡ 0 → ⊥ = omega arith in
    let before : suc i - 1 ≡ i = omega arith in
    ⊎_elim
    (λ k. inl (ltb-true v w k))
    (λ k. inr (eqb-true v w (and_left (eqb v w) (ltb f g) k), ltb-true f g (and_right (eqb v w) (ltb f g) k)))
    (or_cases (ltb v w) (eqb v w && ltb f g) (rw (ne_eqb (suc i) 0 later, before) at h))

pub pair_numbers_rise : (n : ℕ) (s : Survey) → SurveySound s → ByteGroups s → Rising (pair_numbers n s)
pair_numbers_rise n s ok bytes =
    steps_rise (pair_numbers n s)
    (λ i b.
    let bi : suc i < length s.owners = let l = pairs_length n s in omega arith in
    let bj : i < length s.owners = omega arith in
    let f = bytes.other_byte i in
    rw (pair_number n s i bj, pair_number n s (suc i) bi)
    (⊎_elim (λ c. omega arith) (λ c. let x = c.0 in let y = c.1 in omega arith) (rising_elim s.owners s.others i (ok.pairs (suc i) bi).rising)))
