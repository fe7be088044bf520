-- `lower_number` meets its contract: a branch on each.
use Prim.Native.Nat.{ℕ, ◌≤◌, ◌<◌}
use native.Mathlib.Omega.{arith}
use mathlib.Core.Path.{◌≡◌, ◌∙◌}
use Rattle.std.proofs.Common.{◌⊎◌, inl, inr, min}
use Rattle.base_finite.specs.Laws.Below.{lt_or_ge}
use Rattle.floor_rule.specs.Number.{lower_number}
use Rattle.floor_core.specs.Laws.Number.{lower_first, lower_second, lower_less, lower_more}
use Rattle.floor_core.proofs.number.lower_number.Goals as goal

module _ (x y : ℕ) (y_some : y ≡ 0 → ⊥) (x_some : x ≡ 0 → ⊥) {r : ℕ} (r_is : r ≡ min x y) where
  lower : r ≡ lower_number x y
  lower = by (lt_or_ge y x)
    where
      by : (y < x) ⊎ (x ≤ y) → r ≡ lower_number x y
      by (inl h) = let e : r ≡ y = omega arith in e ∙ lower_less x y y_some x_some h
      by (inr h) = let e : r ≡ x = omega arith in e ∙ lower_more x y y_some x_some h

pub returns-in_default : goal.returns-in_default
returns-in_default c = lower _ _ c.in_default.is-1.1 c.in_default.is-0.1 c.min.ensures

pub returns-in_default-eq0 : goal.returns-in_default-eq0
returns-in_default-eq0 c = lower_first _ _ c.in_default-eq0.is-1

pub returns-in_default-eq0-2 : goal.returns-in_default-eq0-2
returns-in_default-eq0-2 c = lower_second _ _ c.in_default-eq0.is-1.1 c.in_default-eq0.is-0
