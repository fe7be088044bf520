-- Tables with an entry for each group, filled in one pass.
use Rattle.std.specs.Prelude.{ℕ, ◌<◌, ◌≡◌, List, length, get_or, eqb}
use Rattle.base_finite.specs.Below.{count_below}
use Rattle.base_limits.specs.Limits.{group_numbers}
use Rattle.floor_rule.specs.Number.{lowest_own, lowest_paired}

-- The lowest number of the lists that members of each poured group are in: by the own groups of the vertices below v, then by the pairs below i.
pub record OwnLows (pours groups : List ℕ) (v : ℕ) (lows : List ℕ) : Type 0 where
  pub long : length lows ≡ group_numbers
  pub lowest : (c : ℕ) → c < group_numbers → get_or lows c 0 ≡ lowest_own pours groups c v

pub record PairedLows (pours groups owners others : List ℕ) (i : ℕ) (lows : List ℕ) : Type 0 where
  pub long : length lows ≡ group_numbers
  pub lowest : (c : ℕ) → c < group_numbers → get_or lows c 0 ≡ lowest_paired pours groups owners others c i

-- How many of the vertices below v each group has.
pub record Counts (groups : List ℕ) (v : ℕ) (counts : List ℕ) : Type 0 where
  pub long : length counts ≡ group_numbers
  pub members : (l : ℕ) → l < group_numbers → get_or counts l 0 ≡ count_below v (λ u. eqb (get_or groups u 0) l)
