-- Counts, sums and searches of a loop that runs upwards.
use Rattle.std.specs.Prelude.{ℕ, ◌+◌, ◌≤◌, ◌≡◌, Bool, false}
use Rattle.std.proofs.Common.{arith, add-one}
use Rattle.base_finite.specs.Below.{counted, sum_below, count_below, any_below}
use Rattle.base_finite.specs.Laws.Below.{count_le, counted_le}

-- One more number, as a call leaves the sum.
pub sum_more : (v : ℕ) (f : ℕ → ℕ) {so_far next : ℕ} → so_far ≡ sum_below v f → next ≡ f v → so_far + next ≡ sum_below (v + 1) f
unfolding sum_below
sum_more v f h k = rw (add-one v, h, k)

pub count_more : (v : ℕ) (t : ℕ → Bool) {so_far next : ℕ} → so_far ≡ count_below v t → next ≡ counted (t v) 1 → so_far + next ≡ count_below (v + 1) t
unfolding count_below
count_more v t h k = sum_more v (λ i. counted (t i) 1) h k

-- The sum, or the count, at the end of the loop.
pub sum_end : (n v : ℕ) (f : ℕ → ℕ) {so_far : ℕ} → v ≤ n → n ≤ v → so_far ≡ sum_below v f → so_far ≡ sum_below n f
sum_end n v f b c h = let e : n ≡ v = omega arith in rw e h

pub count_end : (n v : ℕ) (t : ℕ → Bool) {so_far : ℕ} → v ≤ n → n ≤ v → so_far ≡ count_below v t → so_far ≡ count_below n t
unfolding count_below
count_end n v t b c h = sum_end n v (λ i. counted (t i) 1) b c h

-- A count and what comes next stay below the next number.
pub count_bound : (v : ℕ) (t : ℕ → Bool) {so_far next : ℕ} → so_far ≡ count_below v t → next ≡ counted (t v) 1 → so_far + next ≤ v + 1
count_bound v t h k =
    let a : count_below v t ≤ v = count_le v t in
    let b : counted (t v) 1 ≤ 1 = counted_le (t v) 1 in
    omega arith

-- A loop that looks for a number that passes a test: one more does not, and all are looked at.
pub any_more : (i : ℕ) (t : ℕ → Bool) → any_below i t ≡ false → t i ≡ false → any_below (i + 1) t ≡ false
unfolding any_below
any_more i t h k = rw (add-one i, h, k)

pub any_end : (n i : ℕ) (t : ℕ → Bool) → i ≤ n → n ≤ i → any_below i t ≡ false → any_below n t ≡ false
any_end n i t b c h = let e : n ≡ i = omega arith in rw e h
