-- Laws of sums, counts and searches below a bound. Every crate above uses them.
use Rattle.std.specs.Prelude.{ℕ, zero, suc, ◌+◌, ◌*◌, ◌≤◌, ◌<◌, ◌≡◌, refl, ◌⊎◌, Bool, true, false, ◌&&◌, ◌||◌, cond, [], List, ◌∷◌, ◌++◌, eqb, length, get_or}
use Rattle.std.proofs.Common.{arith, mul-add, mul-zero, ap, sym, ◌∙◌, inl, inr, ⊎_elim, eq-eqb, ne_eqb, length-append}
use Rattle.std.proofs.Math.Decide.{ℕ_discrete, dec_lt}
use Rattle.std.proofs.Math.Bool.{and-false}
use Rattle.std.proofs.lemmas.Bool.{false≢true}
use Rattle.std.proofs.Math.ListN.{get_or-append}
use Rattle.std.proofs.Math.Seq.{get_or-append_seam}
use Rattle.base_finite.specs.Below.{counted, sum_below, count_below, any_below, all_below, tabulate, lookup, memo}
use Rattle.base_finite.specs.Laws.Test.{either, and_left, and_right, and_both, or_cases, or_left, or_right, or_false_left, or_false_right}

-- A number below suc n is below n, or is n.
pub below_suc : (i n : ℕ) → i < suc n → (i < n) ⊎ (i ≡ n)
below_suc i n h = by (ℕ_discrete i n)
  where
    by : Dec (i ≡ n) → (i < n) ⊎ (i ≡ n)
    by (yes e) = inr e
    by (no d) = inl (omega arith)

pub lt_or_ge : (i n : ℕ) → (i < n) ⊎ (n ≤ i)
lt_or_ge i n = by (dec_lt i n)
  where
    by : Dec (i < n) → (i < n) ⊎ (n ≤ i)
    by (yes h) = inl h
    by (no h) = inr (omega arith)

-- ---- sums

pub sum_suc : (n : ℕ) (f : ℕ → ℕ) → sum_below (suc n) f ≡ sum_below n f + f n
unfolding sum_below
sum_suc n f = refl

pub sum_cong : (n : ℕ) (f g : ℕ → ℕ) → ((i : ℕ) → i < n → f i ≡ g i) → sum_below n f ≡ sum_below n g
unfolding sum_below
sum_cong zero f g h = refl
sum_cong (suc n) f g h =
    let ih : sum_below n f ≡ sum_below n g = sum_cong n f g (λ i b. h i (omega arith)) in
    let t : f n ≡ g n = h n (omega arith) in
    omega arith

pub sum_le : (n : ℕ) (f g : ℕ → ℕ) → ((i : ℕ) → i < n → f i ≤ g i) → sum_below n f ≤ sum_below n g
unfolding sum_below
sum_le zero f g h = omega arith
sum_le (suc n) f g h =
    let ih : sum_below n f ≤ sum_below n g = sum_le n f g (λ i b. h i (omega arith)) in
    let t : f n ≤ g n = h n (omega arith) in
    omega arith

pub sum_zero : (n : ℕ) (f : ℕ → ℕ) → ((i : ℕ) → i < n → f i ≡ 0) → sum_below n f ≡ 0
unfolding sum_below
sum_zero zero f h = refl
sum_zero (suc n) f h =
    let ih : sum_below n f ≡ 0 = sum_zero n f (λ i b. h i (omega arith)) in
    let t : f n ≡ 0 = h n (omega arith) in
    omega arith

pub sum_add : (n : ℕ) (f g : ℕ → ℕ) → sum_below n (λ i. f i + g i) ≡ sum_below n f + sum_below n g
unfolding sum_below
sum_add zero f g = refl
sum_add (suc n) f g =
    let ih : sum_below n (λ i. f i + g i) ≡ sum_below n f + sum_below n g = sum_add n f g in
    omega arith

pub sum_scale : (n k : ℕ) (f : ℕ → ℕ) → sum_below n (λ i. k * f i) ≡ k * sum_below n f
unfolding sum_below
sum_scale zero k f = sym (mul-zero k)
sum_scale (suc n) k f =
    let ih : sum_below n (λ i. k * f i) ≡ k * sum_below n f = sum_scale n k f in
    let t : k * (sum_below n f + f n) ≡ k * sum_below n f + k * f n = mul-add k (sum_below n f) (f n) in
    omega arith

-- Two sums change places.
pub sum_swap : (n m : ℕ) (f : ℕ → ℕ → ℕ) → sum_below n (λ i. sum_below m (f i)) ≡ sum_below m (λ j. sum_below n (λ i. f i j))
unfolding sum_below
sum_swap zero m f = sym (sum_zero m (λ j. 0) (λ i h. refl))
sum_swap (suc n) m f =
    let ih : sum_below n (λ i. sum_below m (f i)) ≡ sum_below m (λ j. sum_below n (λ i. f i j)) = sum_swap n m f in
    let t : sum_below m (λ j. sum_below n (λ i. f i j) + f n j) ≡ sum_below m (λ j. sum_below n (λ i. f i j)) + sum_below m (f n) =
    sum_add m (λ j. sum_below n (λ i. f i j)) (f n) in
    omega arith

-- Two functions that differ at x alone.
pub sum_at : (n : ℕ) (f g : ℕ → ℕ) (x : ℕ) → x < n → ((i : ℕ) → i < n → (i ≡ x → ⊥) → f i ≡ g i) → sum_below n f + g x ≡ sum_below n g + f x
unfolding sum_below
sum_at zero f g x h k = absurd (omega arith)
sum_at (suc n) f g x h k =
    ⊎_elim
    (λ b.
    let ih : sum_below n f + g x ≡ sum_below n g + f x = sum_at n f g x b (λ i c. k i (omega arith)) in
    let t : f n ≡ g n = k n (omega arith) (λ e. omega arith) in
    omega arith)
    (λ e.
    let ih : sum_below n f ≡ sum_below n g = sum_cong n f g (λ i b. k i (omega arith) (λ d. omega arith)) in
    let s : f x ≡ f n = ap f e in
    let t : g x ≡ g n = ap g e in
    omega arith)
    (below_suc x n h)

-- Two functions that differ at x and y alone.
pub sum_at_two : (n : ℕ) (f g : ℕ → ℕ) (x y : ℕ) → x < n → y < n → (x ≡ y → ⊥) →
    ((i : ℕ) → i < n → (i ≡ x → ⊥) → (i ≡ y → ⊥) → f i ≡ g i) → sum_below n f + g x + g y ≡ sum_below n g + f x + f y
sum_at_two n f g x y bx by apart h = omega (arith, from_f, to_g, at_x, at_y)
  where
    mid : ℕ → ℕ
    mid i = cond (eqb i y) (g i) (f i)

    elsewhere : (i : ℕ) → (i ≡ y → ⊥) → mid i ≡ f i
    elsewhere i other = rw (ne_eqb i y other)

    at_y : mid y ≡ g y
    at_y = rw (eq-eqb y y refl)

    at_x : mid x ≡ f x
    at_x = elsewhere x apart

    from_f : sum_below n f + mid y ≡ sum_below n mid + f y
    from_f = sum_at n f mid y by (λ i b other. sym (elsewhere i other))

    same : (i : ℕ) → i < n → (i ≡ x → ⊥) → Dec (i ≡ y) → mid i ≡ g i
    same i b other (yes e) = rw (eq-eqb i y e)
    same i b other (no d) = elsewhere i d ∙ h i b other d

    to_g : sum_below n mid + g x ≡ sum_below n g + mid x
    to_g = sum_at n mid g x bx (λ i b other. same i b other (ℕ_discrete i y))

pub sum_member : (n : ℕ) (f : ℕ → ℕ) (x : ℕ) → x < n → f x ≤ sum_below n f
unfolding sum_below
sum_member zero f x h = absurd (omega arith)
sum_member (suc n) f x h =
    ⊎_elim
    (λ b. let ih : f x ≤ sum_below n f = sum_member n f x b in omega arith)
    (λ e. let t : f x ≡ f n = ap f e in omega arith)
    (below_suc x n h)

-- A sum with one term that counts.
pub sum_only : (n : ℕ) (f : ℕ → ℕ) (x : ℕ) → x < n → ((i : ℕ) → i < n → (i ≡ x → ⊥) → f i ≡ 0) → sum_below n f ≡ f x
sum_only n f x h k =
    let e : sum_below n f + 0 ≡ sum_below n (λ i. 0) + f x = sum_at n f (λ i. 0) x h k in
    let z : sum_below n (λ i. 0) ≡ 0 = sum_zero n (λ i. 0) (λ i b. refl) in
    omega arith

pub sum_const : (n k : ℕ) → sum_below n (λ i. k) ≡ n * k
unfolding sum_below
sum_const zero k = omega arith
sum_const (suc n) k = let ih : sum_below n (λ i. k) ≡ n * k = sum_const n k in omega arith

-- A sum of n numbers, none above k.
pub sum_limit : (n k : ℕ) (f : ℕ → ℕ) → ((i : ℕ) → i < n → f i ≤ k) → sum_below n f ≤ n * k
sum_limit n k f h = omega (arith, sum_le n f (λ i. k) h, sum_const n k)

-- ---- numbers that count where a test holds

pub counted_true : {t : Bool} → t ≡ true → (x : ℕ) → counted t x ≡ x
unfolding counted
counted_true h x = rw h

pub counted_false : {t : Bool} → t ≡ false → (x : ℕ) → counted t x ≡ 0
unfolding counted
counted_false h x = rw h

pub counted_le : (t : Bool) (x : ℕ) → counted t x ≤ x
unfolding counted
counted_le true x = omega arith
counted_le false x = omega arith

pub counted_mono : (s t : Bool) (x : ℕ) → (s ≡ true → t ≡ true) → counted s x ≤ counted t x
unfolding counted
counted_mono false t x h = omega arith
counted_mono true t x h = rw (h refl) (omega arith)

pub counted_zero : (t : Bool) → counted t 0 ≡ 0
unfolding counted
counted_zero true = refl
counted_zero false = refl

pub counted_add : (t : Bool) (x y : ℕ) → counted t (x + y) ≡ counted t x + counted t y
unfolding counted
counted_add true x y = refl
counted_add false x y = refl

pub counted_scale : (t : Bool) (k x : ℕ) → counted t (k * x) ≡ k * counted t x
unfolding counted
counted_scale true k x = refl
counted_scale false k x = omega arith

pub counted_sum : (t : Bool) (n : ℕ) (f : ℕ → ℕ) → counted t (sum_below n f) ≡ sum_below n (λ i. counted t (f i))
unfolding counted
counted_sum true n f = refl
counted_sum false n f = sym (sum_zero n (λ i. 0) (λ i h. refl))

-- ---- searches

pub any_intro : (n : ℕ) (t : ℕ → Bool) (i : ℕ) → i < n → t i ≡ true → any_below n t ≡ true
unfolding any_below
any_intro zero t i h k = absurd (omega arith)
any_intro (suc n) t i h k =
    ⊎_elim
    (λ b. or_left (any_below n t) (t n) (any_intro n t i b k))
    (λ e. or_right (any_below n t) (t n) (ap t (sym e) ∙ k))
    (below_suc i n h)

-- A number below n that passes.
pub record Found (n : ℕ) (t : ℕ → Bool) : Type 0 where
  pub at : ℕ
  pub below : at < n
  pub passes : t at ≡ true

pub any_elim : (n : ℕ) (t : ℕ → Bool) → any_below n t ≡ true → Found n t
unfolding any_below
any_elim zero t h = absurd (false≢true h)
any_elim (suc n) t h =
    ⊎_elim
    (λ a. let f : Found n t = any_elim n t a in record { at = f.at; below = omega arith; passes = f.passes })
    (λ e. record { at = n; below = omega arith; passes = e })
    (or_cases (any_below n t) (t n) h)

pub any_none : (n : ℕ) (t : ℕ → Bool) → any_below n t ≡ false → (i : ℕ) → i < n → t i ≡ false
unfolding any_below
any_none zero t h i b = absurd (omega arith)
any_none (suc n) t h i b =
    ⊎_elim
    (λ c. any_none n t (or_false_left (any_below n t) (t n) h) i c)
    (λ e. ap t e ∙ or_false_right (any_below n t) (t n) h)
    (below_suc i n b)

pub any_cong : (n : ℕ) (s t : ℕ → Bool) → ((i : ℕ) → i < n → s i ≡ t i) → any_below n s ≡ any_below n t
unfolding any_below
any_cong zero s t h = refl
any_cong (suc n) s t h = rw (any_cong n s t (λ i b. h i (omega arith)), h n (omega arith))

pub all_intro : (n : ℕ) (t : ℕ → Bool) → ((i : ℕ) → i < n → t i ≡ true) → all_below n t ≡ true
unfolding all_below
all_intro zero t h = refl
all_intro (suc n) t h = and_both (all_below n t) (t n) (all_intro n t (λ i b. h i (omega arith))) (h n (omega arith))

pub all_elim : (n : ℕ) (t : ℕ → Bool) → all_below n t ≡ true → (i : ℕ) → i < n → t i ≡ true
unfolding all_below
all_elim zero t h i b = absurd (omega arith)
all_elim (suc n) t h i b =
    ⊎_elim
    (λ c. all_elim n t (and_left (all_below n t) (t n) h) i c)
    (λ e. ap t e ∙ and_right (all_below n t) (t n) h)
    (below_suc i n b)

pub all_cong : (n : ℕ) (s t : ℕ → Bool) → ((i : ℕ) → i < n → s i ≡ t i) → all_below n s ≡ all_below n t
unfolding all_below
all_cong zero s t h = refl
all_cong (suc n) s t h = rw (all_cong n s t (λ i b. h i (omega arith)), h n (omega arith))

-- ---- counts

pub count_le : (n : ℕ) (t : ℕ → Bool) → count_below n t ≤ n
unfolding count_below
count_le n t =
    let h : sum_below n (λ i. counted (t i) 1) ≤ sum_below n (λ i. 1) = sum_le n _ _ (λ i b. counted_le (t i) 1) in
    let k : sum_below n (λ i. 1) ≡ n * 1 = sum_const n 1 in
    omega arith

pub count_all : (n : ℕ) (t : ℕ → Bool) → ((i : ℕ) → i < n → t i ≡ true) → count_below n t ≡ n
unfolding count_below
count_all n t h =
    let e : sum_below n (λ i. counted (t i) 1) ≡ sum_below n (λ i. 1) = sum_cong n _ _ (λ i b. counted_true (h i b) 1) in
    let k : sum_below n (λ i. 1) ≡ n * 1 = sum_const n 1 in
    omega arith

pub count_cong : (n : ℕ) (s t : ℕ → Bool) → ((i : ℕ) → i < n → s i ≡ t i) → count_below n s ≡ count_below n t
unfolding count_below
count_cong n s t h = sum_cong n _ _ (λ i b. ap (λ x. counted x 1) (h i b))

pub count_positive : (n : ℕ) (t : ℕ → Bool) (i : ℕ) → i < n → t i ≡ true → 1 ≤ count_below n t
unfolding count_below
count_positive n t i h k =
    let m : counted (t i) 1 ≤ sum_below n (λ i. counted (t i) 1) = sum_member n (λ i. counted (t i) 1) i h in
    let e : counted (t i) 1 ≡ 1 = counted_true k 1 in
    omega arith

pub count_none : (n : ℕ) (t : ℕ → Bool) → ((i : ℕ) → i < n → t i ≡ false) → count_below n t ≡ 0
unfolding count_below
count_none n t h = sum_zero n _ (λ i b. counted_false (h i b) 1)

pub count_elim : (n : ℕ) (t : ℕ → Bool) → 1 ≤ count_below n t → Found n t
count_elim n t h =
    ⊎_elim (any_elim n t) (λ k. absurd (omega (arith, count_none n t (any_none n t k)))) (either (any_below n t))

-- Two different numbers that pass.
pub count_two : (n : ℕ) (t : ℕ → Bool) (i j : ℕ) → i < n → j < n → (j ≡ i → ⊥) → t i ≡ true → t j ≡ true → 2 ≤ count_below n t
unfolding count_below
count_two n t i j bi bj apart hi hj =
    omega (
      arith,
      sum_at n (λ k. counted (t k) 1) others i bi (λ k b other. sym (elsewhere k other)),
      sum_member n others j bj,
      counted_true hi 1,
      counted_true hj 1,
      at_i,
      elsewhere j apart,
    )
  where
    others : ℕ → ℕ
    others k = cond (eqb k i) 0 (counted (t k) 1)

    at_i : others i ≡ 0
    at_i = rw (eq-eqb i i refl)

    elsewhere : (k : ℕ) → (k ≡ i → ⊥) → others k ≡ counted (t k) 1
    elsewhere k other = rw (ne_eqb k i other)

pub counted_or_le : (s t : Bool) (x : ℕ) → counted (s || t) x ≤ counted s x + counted t x
unfolding counted
counted_or_le true t x = omega arith
counted_or_le false t x = omega arith

-- Of the numbers below n, at most one is l.
pub count_equal_le : (n l : ℕ) (t : Bool) → sum_below n (λ c. counted (t && eqb l c) 1) ≤ counted t 1
count_equal_le n l t = ⊎_elim in_range out_of_range (lt_or_ge l n)
  where
    off : (c : ℕ) → (c ≡ l → ⊥) → counted (t && eqb l c) 1 ≡ 0
    off c other = counted_false (rw (ne_eqb l c (λ e. other (sym e))) (and-false t)) 1

    in_range : l < n → sum_below n (λ c. counted (t && eqb l c) 1) ≤ counted t 1
    in_range b =
        omega
        (arith, sum_only n (λ c. counted (t && eqb l c) 1) l b (λ c bc other. off c other), counted_mono (t && eqb l l) t 1 (and_left t (eqb l l)))

    out_of_range : n ≤ l → sum_below n (λ c. counted (t && eqb l c) 1) ≤ counted t 1
    out_of_range g = omega (arith, sum_zero n (λ c. counted (t && eqb l c) 1) (λ c bc. off c (λ e. omega arith)))

-- There are no more labels of passing numbers than passing numbers.
pub count_labels : (n k : ℕ) (X : ℕ → Bool) (label : ℕ → ℕ) → count_below n (λ c. any_below k (λ v. X v && eqb (label v) c)) ≤ count_below k X
unfolding count_below any_below
count_labels n zero X label = omega (arith, sum_zero n (λ c. counted false 1) (λ c b. counted_false refl 1))
count_labels n (suc k) X label =
    omega (
      arith,
      count_labels n k X label,
      count_equal_le n (label k) (X k),
      sum_suc k (λ v. counted (X v) 1),
      sum_le n (λ c. counted (any_below k (λ v. X v && eqb (label v) c) || X k && eqb (label k) c) 1)
          (λ c. counted (any_below k (λ v. X v && eqb (label v) c)) 1 + counted (X k && eqb (label k) c) 1)
          (λ c b. counted_or_le (any_below k (λ v. X v && eqb (label v) c)) (X k && eqb (label k) c) 1),
      sum_add n (λ c. counted (any_below k (λ v. X v && eqb (label v) c)) 1) (λ c. counted (X k && eqb (label k) c) 1),
    )

-- ---- tables

pub length_tabulate {ℓ} : {A : Type ℓ} (n : ℕ) (f : ℕ → A) → length (tabulate n f) ≡ n
unfolding tabulate
length_tabulate zero f = refl
length_tabulate (suc n) f =
    let ih : length (tabulate n f) ≡ n = length_tabulate n f in
    let e : length (tabulate n f ++ (f n ∷ [])) ≡ length (tabulate n f) + 1 = length-append (tabulate n f) (f n ∷ []) in
    omega arith

pub get_d_tabulate {ℓ} : {A : Type ℓ} (n : ℕ) (f : ℕ → A) (i : ℕ) (d : A) → i < n → get_or (tabulate n f) i d ≡ f i
unfolding tabulate
get_d_tabulate zero f i d h = absurd (omega arith)
get_d_tabulate (suc n) f i d h =
    ⊎_elim
    (λ b.
    let l : i < length (tabulate n f) = rw (length_tabulate n f) b in
    get_or-append (tabulate n f) (f n ∷ []) d i l ∙ get_d_tabulate n f i d b)
    (λ e.
    let at : i ≡ length (tabulate n f) = e ∙ sym (length_tabulate n f) in
    ap (λ k. get_or (tabulate n f ++ (f n ∷ [])) k d) at ∙ get_or-append_seam (tabulate n f) (f n) [] d ∙ ap f (sym e))
    (below_suc i n h)

lookup_append {ℓ} : {A : Type ℓ} (xs ys : List A) (i : ℕ) (f : ℕ → A) (j : ℕ) → i < length xs → lookup (xs ++ ys) i f j ≡ lookup xs i f j
unfolding lookup
lookup_append [] ys i f j h = absurd (omega arith)
lookup_append (x ∷ xs) ys zero f j h = refl
lookup_append (x ∷ xs) ys (suc i) f j h = lookup_append xs ys i f j (omega arith)

lookup_out {ℓ} : {A : Type ℓ} (xs : List A) (i : ℕ) (f : ℕ → A) (j : ℕ) → length xs ≤ i → lookup xs i f j ≡ f j
unfolding lookup
lookup_out [] i f j h = refl
lookup_out (x ∷ xs) zero f j h = absurd (omega arith)
lookup_out (x ∷ xs) (suc i) f j h = lookup_out xs i f j (omega arith)

lookup_seam {ℓ} : {A : Type ℓ} (xs : List A) (y : A) (f : ℕ → A) (j : ℕ) → lookup (xs ++ (y ∷ [])) (length xs) f j ≡ y
unfolding lookup
lookup_seam [] y f j = refl
lookup_seam (x ∷ xs) y f j = lookup_seam xs y f j

lookup_tabulate {ℓ} : {A : Type ℓ} (n : ℕ) (f : ℕ → A) (i : ℕ) → i < n → lookup (tabulate n f) i f i ≡ f i
unfolding tabulate
lookup_tabulate zero f i h = absurd (omega arith)
lookup_tabulate (suc n) f i h =
    ⊎_elim
    (λ b.
    let l : i < length (tabulate n f) = rw (length_tabulate n f) b in
    lookup_append (tabulate n f) (f n ∷ []) i f i l ∙ lookup_tabulate n f i b)
    (λ e.
    let at : i ≡ length (tabulate n f) = e ∙ sym (length_tabulate n f) in
    ap (λ k. lookup (tabulate n f ++ (f n ∷ [])) k f i) at ∙ lookup_seam (tabulate n f) (f n) f i ∙ ap f (sym e))
    (below_suc i n h)

-- memo n f is f.
pub memo_is {ℓ} : {A : Type ℓ} (n : ℕ) (f : ℕ → A) (i : ℕ) → memo n f i ≡ f i
unfolding memo
memo_is n f i = ⊎_elim (lookup_tabulate n f i) (λ h. lookup_out (tabulate n f) i f i (rw (length_tabulate n f) h)) (lt_or_ge i n)
