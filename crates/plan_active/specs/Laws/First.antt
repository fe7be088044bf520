-- The first labels relabelled, as a lent part or as the whole.
use Rattle.std.specs.Prelude.{ℕ, zero, suc, ◌-◌, ◌≤◌, ◌≡◌, refl, [], List, ◌∷◌, ◌++◌, length, take, drop}
use Rattle.std.proofs.Common.{arith, ap, ◌∙◌}
use Rattle.std.proofs.Math.Nat.{sub-zero}
use Rattle.base_buffer.specs.Store.{remade}
use Rattle.survey_components.specs.Buffer.{relabelled}
use Rattle.plan_active.specs.Flags.{relabelled_first}

remade_front : (f : ℕ → ℕ → ℕ) (n : ℕ) (l : List ℕ) → (remade f (length (take n l)) (take n l) ++ drop n l) ≡ remade f n l
unfolding remade
remade_front f zero l = refl
remade_front f (suc n) [] = refl
remade_front f (suc n) (x ∷ l) = ap (λ (t : List ℕ). f 0 x ∷ t) (remade_front (λ k. f (suc k)) n l)

remade_past : (f : ℕ → ℕ → ℕ) (n : ℕ) (l : List ℕ) → length l ≤ n → remade f (length l) l ≡ remade f n l
unfolding remade
remade_past f zero [] b = refl
remade_past f (suc n) [] b = refl
remade_past f zero (x ∷ l) b = absurd (omega arith)
remade_past f (suc n) (x ∷ l) b = ap (λ (t : List ℕ). f 0 x ∷ t) (remade_past (λ k. f (suc k)) n l (omega arith))

-- The first n, lent.
pub first_lent : (n x y z : ℕ) (l : List ℕ) {part : List ℕ} → part ≡ relabelled x y z (take (n - 0) l) → (part ++ drop (n - 0) l) ≡ relabelled_first n x y z l
unfolding relabelled relabelled_first
first_lent n x y z l made = ap (λ (t : List ℕ). t ++ drop (n - 0) l) made ∙ rw (sub-zero n) (remade_front _ n l)

-- More than there are.
pub first_all : (n x y z : ℕ) (l : List ℕ) {after : List ℕ} → length l ≤ n → after ≡ relabelled x y z l → after ≡ relabelled_first n x y z l
unfolding relabelled relabelled_first
first_all n x y z l b made = made ∙ remade_past _ n l b
