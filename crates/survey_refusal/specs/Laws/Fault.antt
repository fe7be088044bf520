-- Tests as numbers: 1 where one of two holds.
use Rattle.std.specs.Prelude.{ℕ, ◌≡◌, refl, Bool, true, false, ◌||◌}
use Rattle.std.specs.Int.Bits.{bit_or}
use Rattle.base_finite.specs.Below.{counted}

both_counted : (s t : Bool) → bit_or (counted s 1) (counted t 1) ≡ counted (s || t) 1
unfolding counted
both_counted true true = refl
both_counted true false = refl
both_counted false true = refl
both_counted false false = refl

pub or_counted : (s t : Bool) {x y : ℕ} → x ≡ counted s 1 → y ≡ counted t 1 → bit_or x y ≡ counted (s || t) 1
or_counted s t x_is y_is = rw (x_is, y_is) (both_counted s t)
