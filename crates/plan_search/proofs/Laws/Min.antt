-- The lower of two numbers, as a test says it.
use Rattle.std.specs.Prelude.{ℕ, ◌≡◌, Bool, true, false, cond, ltb, min}
use Rattle.std.proofs.Common.{arith, refl}
use borrow.Author.Tests.{ltb-true, ltb-false}

pub min_first : (x y : ℕ) → min x y ≡ cond (ltb x y) x y
min_first x y = by (ltb x y) refl
  where
    by : (t : Bool) → ltb x y ≡ t → min x y ≡ cond t x y
    by true h = let l = ltb-true x y h in omega arith
    by false h = let l = ltb-false x y h in omega arith

pub min_second : (x y : ℕ) → min x y ≡ cond (ltb y x) y x
min_second x y = by (ltb y x) refl
  where
    by : (t : Bool) → ltb y x ≡ t → min x y ≡ cond t y x
    by true h = let l = ltb-true y x h in omega arith
    by false h = let l = ltb-false y x h in omega arith
