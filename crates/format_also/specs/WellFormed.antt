-- Which pairs also lines may say (document 02, No. 2), which of them reading accepts, and what each refusal asks of a pair.
use Rattle.std.specs.Prelude.{ℕ, ◌+◌, ◌≤◌, ◌<◌, ◌≡◌, false, ◌⊎◌, List, [], ◌∷◌, length, get_or}
use Rattle.base_limits.specs.Limits.{group_numbers, max_pairs}
use Rattle.format_read.specs.Bytes.{byte_is}
use Rattle.format_read.specs.Language.{Each}
use Rattle.format_read.specs.Number.{also_letter}
use Rattle.format_also.specs.Pair.{Pair, PairDigits, rank}

-- Pairs that well-formed also lines say, whether or not they pass their tests.
pub record FewPairs (l : List Pair) : Type 0 where
  pub digits : Each PairDigits l
  pub few : length l ≤ max_pairs

-- No also line begins there.
abbrev pub NoAlso : List ℕ → ℕ → Type 0
NoAlso t p = byte_is t p also_letter ≡ false

-- What 18 asks of a pair that stands behind one of rank low (0 for none).
pub record PairInOrder (groups : List ℕ) (low : ℕ) (x : Pair) : Type 0 where
  pub below : x.owner < length groups
  pub some : x.other ≡ 0 → ⊥
  pub foreign : x.other ≡ get_or groups x.owner 0 → ⊥
  pub rises : low < rank x

-- The faults that 18 names: no junction, no group, the junction's own group, not above the pair before.
abbrev pub PairOutOfOrder : (groups : List ℕ) (low : ℕ) → Pair → Type 0
PairOutOfOrder groups low x = (length groups ≤ x.owner) ⊎ ((x.other ≡ 0) ⊎ ((x.other ≡ get_or groups x.owner 0) ⊎ (rank x ≤ low)))

-- What 17, 18 and 7 ask of pair i, where there is room for so many pairs.
pub record PairPasses (groups : List ℕ) (room low i : ℕ) (x : Pair) : Type 0 where
  pub group : x.other < group_numbers
  pub order : PairInOrder groups low x
  pub fits : i < room

-- Pairs that pass one after another, of which the first is pair i and stands behind one of rank low.
pub data PairsPass (groups : List ℕ) (room : ℕ) : (low i : ℕ) → List Pair → Type 0 where
  no_pair : {low i : ℕ} → PairsPass groups room low i []
  next_pair : {low i : ℕ} {x : Pair} {l : List Pair} → i < max_pairs → PairDigits x → PairPasses groups room low i x
      → PairsPass groups room (rank x) (i + 1) l → PairsPass groups room low i (x ∷ l)

-- The rank behind which a pair stands that follows these, where low stands before them.
unfoldable pub last_rank : (low : ℕ) → List Pair → ℕ
last_rank low [] = low
last_rank low (x ∷ l) = last_rank (rank x) l
