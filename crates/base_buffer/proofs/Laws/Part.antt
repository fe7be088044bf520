-- The part that is printed is in the buffer, and is its beginning as far as it reaches.
use Rattle.std.specs.Prelude.{ℕ, ◌-◌, ◌≤◌, ◌<◌, ◌≡◌, cond, List, length, take}
use Rattle.std.proofs.Common.{arith, ap, sym, ◌∙◌, ⊎_elim, take_all, lt-ltb, le-ltb}
use Rattle.std.proofs.Math.Nat.{sub-zero}
use Rattle.base_finite.specs.Laws.Below.{lt_or_ge}
use Rattle.base_buffer.specs.Part.{at_most}

pub most_room : (wanted room : ℕ) → room < wanted → room ≡ at_most wanted room
unfolding at_most
most_room wanted room b = sym (ap (λ t. cond t room wanted) (lt-ltb room wanted b))

pub most_wanted : (wanted room : ℕ) → wanted ≤ room → wanted ≡ at_most wanted room
unfolding at_most
most_wanted wanted room b = sym (ap (λ t. cond t room wanted) (le-ltb room wanted b))

-- A part up to a place, or the whole of a list that ends before it.
pub whole_part : (wanted : ℕ) (l : List ℕ) {n : ℕ} → n ≡ length l → length l ≤ wanted → take (n - 0) l ≡ take wanted l
whole_part wanted l {n} n_is b = take_all (n - 0) l (omega arith) ∙ sym (take_all wanted l b)

pub most_le : (wanted room : ℕ) {n : ℕ} → n ≡ at_most wanted room → n ≤ room
most_le wanted room is =
    ⊎_elim
    (λ b. let h = most_room wanted room b in omega arith)
    (λ b. let h = most_wanted wanted room b in omega arith)
    (lt_or_ge room wanted)

pub most_part : (wanted : ℕ) (l : List ℕ) {n : ℕ} → n ≡ at_most wanted (length l) → take (n - 0) l ≡ take wanted l
most_part wanted l {n} is =
    ⊎_elim
    (λ b. whole_part wanted l (is ∙ sym (most_room wanted (length l) b)) (omega arith))
    (λ b. ap (λ (k : ℕ). take k l) (sub-zero n ∙ is ∙ sym (most_wanted wanted (length l) b)))
    (lt_or_ge (length l) wanted)
