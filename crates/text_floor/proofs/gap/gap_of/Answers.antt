-- `gap_of` meets its contract: no gap without a floor, and else a division rounded up.
use native.Mathlib.Omega.{arith}
use Rattle.std.specs.Prelude.{ℕ, ◌+◌, ◌*◌, ◌-◌, ◌/◌, ◌%◌, ◌≤◌, ◌<◌, ◌≡◌, min}
use Rattle.std.proofs.Common.{div-add-mod', mod-lt, ◌∙◌}
use Rattle.std.proofs.lemmas.Grind.{div_ceil_times}
use Rattle.text_floor.proofs.Laws.Gap.{gap_none, gap_some, gap_fits}
use borrow.Author.Rules.{rules}
use Rattle.text_floor.proofs.gap.gap_of.Goals as goal

-- Two ways to divide and round up: both are the least number whose product is no less.
rounded_up : (x f : ℕ) → 0 < f → x / f + min 1 (x % f) ≡ (x + (f - 1)) / f
rounded_up x f some = least (x / f + min 1 (x % f)) ((x + (f - 1)) / f) bounds.0 bounds.1 (omega (arith, whole, less)) (omega (arith, whole, less))
  where
    bounds : (x ≤ (x / f + min 1 (x % f)) * f) × ((x / f + min 1 (x % f)) * f < x + f)
    bounds = div_ceil_times x f some

    whole : (x + (f - 1)) / f * f + (x + (f - 1)) % f ≡ x + (f - 1)
    whole = div-add-mod' (x + (f - 1)) f

    less : (x + (f - 1)) % f < f
    less = mod-lt (x + (f - 1)) some

    least : (p q : ℕ) → x ≤ p * f → p * f < x + f → x ≤ q * f → q * f < x + f → p ≡ q
    least p q a b c d = grind arith

pub returns-then-floor-eq0 : goal.returns-then-floor-eq0
returns-then-floor-eq0 c = gap_none _ _ c.if-floor-eq0.true

pub overflow_sub-cost : goal.overflow_sub-cost
overflow_sub-cost c = let below = c.requires.floor_le_cost in search (rules, below)

pub overflow_mul-cost : goal.overflow_mul-cost
overflow_mul-cost c = let fits = gap_fits _ _ c.requires.floor_le_cost c.requires.cost_le_max_cost in search (rules, fits)

pub returns : goal.returns
returns c = c.div_ceil.ensures ∙ rounded_up _ c.args.floor (omega arith) ∙ gap_some _ _ c.if-floor-eq0.false
