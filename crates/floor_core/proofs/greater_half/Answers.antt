-- `greater_half` meets its contract: the greater of the two.
use Prim.Native.Nat.{ℕ, ◌+◌, ◌/◌, ◌%◌, ◌≤◌, ◌<◌}
use native.Mathlib.Omega.{arith}
use mathlib.Core.Path.{◌≡◌, ◌∙◌}
use Rattle.std.proofs.Common.{◌⊎◌, inl, inr, max}
use Rattle.base_finite.specs.Laws.Below.{lt_or_ge}
use Rattle.floor_rule.specs.Floor.{greater, half_up}
use Rattle.floor_core.specs.Laws.Floor.{greater_half, greater_ascent}
use Rattle.floor_core.proofs.greater_half.Goals as goal

module _ (ascent bound : ℕ) {half r : ℕ} (half_is : half ≡ bound / 2 + bound % 2) (r_is : r ≡ max ascent half) where
  greatest : r ≡ greater ascent (half_up bound)
  greatest = by (lt_or_ge ascent half)
    where
      by : (ascent < half) ⊎ (half ≤ ascent) → r ≡ greater ascent (half_up bound)
      by (inl h) = let e : r ≡ half = omega arith in e ∙ greater_half ascent bound half_is h
      by (inr h) = let e : r ≡ ascent = omega arith in e ∙ greater_ascent ascent bound half_is h

pub returns : goal.returns
returns c = greatest _ c.args.bound (omega (arith, c.div_ceil.ensures)) c.max.ensures
