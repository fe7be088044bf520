-- Refusal 18 (document 02, No. 2): what is wrong with the lowest pair that has something wrong. Pairs count from 0.
use Rattle.std.specs.Prelude.{ℕ, ◌-◌, ◌<◌, ◌≡◌, Bool, true, ◌&&◌, ◌||◌, not, List, length, get_or, eqb, ltb, leb}
use Rattle.base_limits.specs.Limits.{max_pairs}
use Rattle.base_limits.specs.Verdict.{refuse_if, ◌before◌, lowest_below}
use Rattle.base_limits.specs.declared.Verdict.{Verdict}
use Rattle.survey_core.specs.Lists.{Lists, own, owner, other}

-- Pair i stands above the one before it, by v, then by g; the first has none before it.
unfoldable pub is_rising : (owners others : List ℕ) → ℕ → Bool
is_rising owners others i =
    let v = get_or owners (i - 1) 0 in
    let w = get_or owners i 0 in
    eqb i 0 || (ltb v w || (eqb v w && ltb (get_or others (i - 1) 0) (get_or others i 0)))

-- v at n or above; g 0; g v's own group; out of rising order; past the last that may be.
unfoldable pub pair_refusal : Lists → ℕ → Verdict
pair_refusal l i =
    refuse_if (leb (length l.groups) (owner l i)) 18 i
    before refuse_if (eqb (other l i) 0) 18 i
    before refuse_if (eqb (other l i) (own l (owner l i))) 18 i
    before refuse_if (not (is_rising l.owners l.others i)) 18 i
    before refuse_if (leb max_pairs i) 18 i

unfoldable pub pairs_refusal : Lists → Verdict
pairs_refusal l = lowest_below (length l.owners) (pair_refusal l)

-- What 18 leaves of a pair.
pub record PairSound (l : Lists) (i : ℕ) : Type 0 where
  pub below : owner l i < length l.groups
  pub some : other l i ≡ 0 → ⊥
  pub foreign : other l i ≡ own l (owner l i) → ⊥
  pub rising : is_rising l.owners l.others i ≡ true
  pub few : i < max_pairs

-- And of all.
abbrev pub PairsSound : Lists → Type 0
PairsSound l = (i : ℕ) → i < length l.owners → PairSound l i
