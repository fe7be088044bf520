-- Laws of loops that store at rising places, and of single stores into a table. Every such loop uses them.
use Rattle.std.specs.Prelude.{ℕ, zero, suc, ◌+◌, ◌<◌, ◌≤◌, ◌≡◌, refl, ◌⊎◌, [], List, ◌∷◌, length, get_or, set, replicate}
use Rattle.std.proofs.Common.{arith, add-one, ap, sym, ◌∙◌, inl, inr, length-set, ext_get_or, get_or-set_same, get_or-set_other}
use Rattle.std.proofs.Math.Decide.{ℕ_discrete}
use Rattle.std.proofs.lemmas.List.{length-replicate, get_or-replicate}
use Rattle.base_finite.specs.Below.{tabulate}
use Rattle.base_finite.specs.Laws.Below.{length_tabulate, get_d_tabulate, lt_or_ge}
use Rattle.base_buffer.specs.Store.{remade}

pub length_remade : (f : ℕ → ℕ → ℕ) (i : ℕ) (l : List ℕ) → length (remade f i l) ≡ length l
unfolding remade
length_remade f zero l = refl
length_remade f (suc i) [] = refl
length_remade f (suc i) (x ∷ l) = ap suc (length_remade (λ k. f (suc k)) i l)

-- What has not been passed is as it was.
pub remade_ahead : (f : ℕ → ℕ → ℕ) (i : ℕ) (l : List ℕ) (k : ℕ) → i ≤ k → get_or (remade f i l) k 0 ≡ get_or l k 0
unfolding remade
remade_ahead f zero l k h = refl
remade_ahead f (suc i) [] k h = refl
remade_ahead f (suc i) (x ∷ l) zero h = absurd (omega arith)
remade_ahead f (suc i) (x ∷ l) (suc k) h = remade_ahead (λ k. f (suc k)) i l k (omega arith)

pub remade_passed : (f : ℕ → ℕ → ℕ) (i : ℕ) (l : List ℕ) (k : ℕ) → k < i → k < length l → get_or (remade f i l) k 0 ≡ f k (get_or l k 0)
unfolding remade
remade_passed f zero l k h b = absurd (omega arith)
remade_passed f (suc i) [] k h b = absurd (omega arith)
remade_passed f (suc i) (x ∷ l) zero h b = refl
remade_passed f (suc i) (x ∷ l) (suc k) h b = remade_passed (λ k. f (suc k)) i l k (omega arith) (omega arith)

remade_suc : (f : ℕ → ℕ → ℕ) (i : ℕ) (l : List ℕ) → set (remade f i l) i (f i (get_or l i 0)) ≡ remade f (suc i) l
unfolding remade
remade_suc f zero [] = refl
remade_suc f (suc i) [] = refl
remade_suc f zero (x ∷ l) = refl
remade_suc f (suc i) (x ∷ l) = ap (λ t. f 0 x ∷ t) (remade_suc (λ k. f (suc k)) i l)

-- What every place keeps stays.
pub remade_still : (f : ℕ → ℕ → ℕ) (i : ℕ) (l : List ℕ) → ((k x : ℕ) → f k x ≡ x) → remade f i l ≡ l
unfolding remade
remade_still f zero l h = refl
remade_still f (suc i) [] h = refl
remade_still f (suc i) (x ∷ l) h = ap (λ y. y ∷ remade (λ k. f (suc k)) i l) (h 0 x) ∙ ap (λ t. x ∷ t) (remade_still (λ k. f (suc k)) i l (λ k y. h (suc k) y))

-- One store more: x is what f makes of the place and of what stood there.
pub remade_more : (f : ℕ → ℕ → ℕ) (i : ℕ) (l now : List ℕ) (x : ℕ) → now ≡ remade f i l → x ≡ f i (get_or now i 0) → set now i x ≡ remade f (i + 1) l
remade_more f i l now x h k =
    let e : x ≡ f i (get_or l i 0) = k ∙ ap (λ t. f i (get_or t i 0)) h ∙ ap (f i) (remade_ahead f i l i (omega arith)) in
    rw (h, e, add-one i) (remade_suc f i l)

-- The loop has come to the end.
pub remade_end : (f : ℕ → ℕ → ℕ) (n i : ℕ) (l : List ℕ) → i ≤ n → n ≤ i → remade f i l ≡ remade f n l
remade_end f n i l b c = let e : i ≡ n = omega arith in rw e

-- A table filled or changed throughout.
pub remade_table : (f : ℕ → ℕ → ℕ) (n : ℕ) (l : List ℕ) (g : ℕ → ℕ) → length l ≡ n → ((k : ℕ) → k < n → f k (get_or l k 0) ≡ g k) → remade f n l ≡ tabulate n g
remade_table f n l g long h =
    let e : length (remade f n l) ≡ n = length_remade f n l ∙ long in
    ext_get_or
    0
    (remade f n l)
    (tabulate n g)
    (e ∙ sym (length_tabulate n g))
    (λ k b. remade_passed f n l k (omega arith) (omega arith) ∙ h k (omega arith) ∙ sym (get_d_tabulate n g k 0 (omega arith)))

-- The same at the end of the loop that stores it.
pub stored_table : (f : ℕ → ℕ → ℕ) (n i : ℕ) (l : List ℕ) (g : ℕ → ℕ) {after : List ℕ} → i ≤ n → n ≤ i → length l ≡ n
    → ((k : ℕ) → k < n → f k (get_or l k 0) ≡ g k) → after ≡ remade f i l → after ≡ tabulate n g
stored_table f n i l g b c long h k = k ∙ remade_end f n i l b c ∙ remade_table f n l g long h

-- A table changed in its first n places.
pub remade_part : (f : ℕ → ℕ → ℕ) (n N : ℕ) (l : List ℕ) (g : ℕ → ℕ) → length l ≡ N → n ≤ N → ((k : ℕ) → k < n → f k (get_or l k 0) ≡ g k)
    → ((k : ℕ) → n ≤ k → k < N → get_or l k 0 ≡ g k) → remade f n l ≡ tabulate N g
remade_part f n N l g long fits h same =
    let e : length (remade f n l) ≡ N = length_remade f n l ∙ long in
    ext_get_or
    0
    (remade f n l)
    (tabulate N g)
    (e ∙ sym (length_tabulate N g))
    (λ k b. at k (omega arith) (lt_or_ge k n) ∙ sym (get_d_tabulate N g k 0 (omega arith)))
  where
    at : (k : ℕ) → k < N → (k < n) ⊎ (n ≤ k) → get_or (remade f n l) k 0 ≡ g k
    at k b (inl c) = remade_passed f n l k c (omega arith) ∙ h k c
    at k b (inr c) = remade_ahead f n l k c ∙ same k c b

pub tabulate_cong : (n : ℕ) (f g : ℕ → ℕ) → ((i : ℕ) → i < n → f i ≡ g i) → tabulate n f ≡ tabulate n g
unfolding tabulate
tabulate_cong zero f g h = refl
tabulate_cong (suc n) f g h = rw (tabulate_cong n f g (λ i b. h i (omega arith)), h n (omega arith))

pub replicate_table : (n x : ℕ) → replicate n x ≡ tabulate n (λ i. x)
replicate_table n x =
    ext_get_or
    0
    (replicate n x)
    (tabulate n (λ i. x))
    (length-replicate n x ∙ sym (length_tabulate n (λ i. x)))
    (λ i b.
    let c : i < n = rw (length-replicate n x) at b in
    get_or-replicate n i x 0 c ∙ sym (get_d_tabulate n (λ i. x) i 0 c))

-- A store into a table of f makes it one of g, where g is the stored number there and f elsewhere.
pub set_table : (n : ℕ) (f g : ℕ → ℕ) (i x : ℕ) → x ≡ g i → ((k : ℕ) → (k ≡ i → ⊥) → f k ≡ g k) → set (tabulate n f) i x ≡ tabulate n g
set_table n f g i x h k =
    let long : length (set (tabulate n f) i x) ≡ n = length-set (tabulate n f) i x ∙ length_tabulate n f in
    ext_get_or
    0
    (set (tabulate n f) i x)
    (tabulate n g)
    (long ∙ sym (length_tabulate n g))
    (λ j b. at j (omega arith) (ℕ_discrete j i) ∙ sym (get_d_tabulate n g j 0 (omega arith)))
  where
    at : (j : ℕ) → j < n → Dec (j ≡ i) → get_or (set (tabulate n f) i x) j 0 ≡ g j
    at j b (yes e) =
        let c : i < length (tabulate n f) = rw (length_tabulate n f) (omega arith) in
        ap (λ t. get_or (set (tabulate n f) i x) t 0) e ∙ get_or-set_same (tabulate n f) i x 0 c ∙ h ∙ ap g (sym e)
    at j b (no d) = get_or-set_other (tabulate n f) i j x 0 d ∙ get_d_tabulate n f j 0 b ∙ k j d
