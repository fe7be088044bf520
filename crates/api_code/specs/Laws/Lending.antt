-- A buffer of which nothing is lent on where the counts do not fit, else the whole.
use Rattle.std.specs.Prelude.{ℕ, ◌-◌, ◌<◌, ◌≤◌, ◌≡◌, refl, Bool, true, false, cond, List, [], length, ltb}
use Rattle.std.proofs.Common.{arith, ◌∙◌, take_all, lt-ltb, le-ltb}
use Rattle.std.proofs.Math.Nat.{sub-zero}
use Rattle.std.proofs.Math.Path.{ap}
use Rattle.std.proofs.Math.ListN.{take, drop}
use Rattle.std.proofs.Math.Seq.{drop-length}
use Rattle.api_code.specs.Code.{lent_on}

pub lent_none : (long wanted whole : ℕ) → long < wanted → 0 ≡ lent_on long wanted whole
unfolding lent_on
lent_none long wanted whole h = rw (lt-ltb long wanted h)

pub lent_whole : (long wanted whole : ℕ) → wanted ≤ long → whole ≡ lent_on long wanted whole
unfolding lent_on
lent_whole long wanted whole h = rw (le-ltb long wanted h)

cond_le : (b : Bool) (n : ℕ) → cond b 0 n ≤ n
cond_le true n = omega arith
cond_le false n = omega arith

pub lent_le : {room : ℕ} (long wanted whole : ℕ) → room ≡ lent_on long wanted whole → room ≤ whole
unfolding lent_on
lent_le long wanted whole h = let l = cond_le (ltb long wanted) whole in omega arith

cond_take : (b : Bool) (l : List ℕ) → take (cond b 0 (length l) - 0) l ≡ cond b [] l
cond_take true l = refl
cond_take false l = take_all (length l - 0) l (omega arith)

cond_drop : (b : Bool) (l : List ℕ) → drop (cond b 0 (length l) - 0) l ≡ cond b l []
cond_drop true l = refl
cond_drop false l = ap (λ (n : ℕ). drop n l) (sub-zero (length l)) ∙ drop-length l

-- What is lent on of a buffer, and what stands behind it.
module _ (long wanted : ℕ) (l : List ℕ) {room : ℕ} (lent : room ≡ lent_on long wanted (length l)) where
  pub lent_part : take (room - 0) l ≡ cond (ltb long wanted) [] l
  unfolding lent_on
  lent_part = ap (λ (n : ℕ). take (n - 0) l) lent ∙ cond_take (ltb long wanted) l

  pub lent_rest : drop (room - 0) l ≡ cond (ltb long wanted) l []
  unfolding lent_on
  lent_rest = ap (λ (n : ℕ). drop (n - 0) l) lent ∙ cond_drop (ltb long wanted) l
