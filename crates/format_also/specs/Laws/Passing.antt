-- Pairs that also lines say before the first refusal pass their tests: they are few, and they have room (document 02, No. 2).
use Rattle.std.specs.Prelude.{ℕ, zero, suc, ◌+◌, ◌≤◌, ◌≡◌, refl, Bool, true, false, cond, List, [], length}
use Rattle.std.proofs.Common.{arith}
use Rattle.base_limits.specs.Limits.{max_pairs}
use Rattle.format_read.specs.Step.{Step, found, refused}
use Rattle.format_read.specs.Lines.{following}
use Rattle.format_read.specs.Items.{items_from}
use Rattle.format_read.specs.Language.{Each, none, more}
use Rattle.format_also.specs.Pair.{Pair, PairDigits, rank, also_line, also_reader, also_turns, also_at}
use Rattle.format_also.specs.WellFormed.{PairsPass, no_pair, next_pair, FewPairs}
use Rattle.format_also.specs.Laws.Tests.{line_passed}

-- ---- what is read passes

items_pass : (t groups : List ℕ) (room fuel low i at : ℕ) → PairsPass groups room low i (items_from (also_reader t groups room) fuel low i at).values
unfolding items_from following also_reader
items_pass t groups room zero low i at = no_pair
items_pass t groups room (suc fuel) low i at =
    by_stop ((also_reader t groups room).stop at) (also_line t groups room low i at) refl (λ x p. items_pass t groups room fuel (rank x) (i + 1) p)
  where
    by_stop : (b : Bool) (s : Step Pair) → also_line t groups room low i at ≡ s
        → ((x : Pair) (p : ℕ) → PairsPass groups room (rank x) (i + 1) (items_from (also_reader t groups room) fuel (rank x) (i + 1) p).values)
        → PairsPass groups room low i (cond b (record { values = []; end = found low at }) (following s (λ x p. items_from (also_reader t groups room) fuel (rank x) (i + 1) p))).values
    by_stop true s e ih = no_pair
    by_stop false (found x p) e ih = let w = line_passed t groups room low i at e in next_pair w.few w.digits w.passes (ih x p)
    by_stop false (refused n p) e ih = no_pair

-- The pairs before the first refusal, or all of them.
pub also_passes : (t groups : List ℕ) (room at : ℕ) → PairsPass groups room 0 0 (also_at t groups room at).values
unfolding also_at
also_passes t groups room at = items_pass t groups room also_turns 0 0 at

-- ---- few, and with room

module _ {groups : List ℕ} {room : ℕ} where
  pub pairs_few : {low i : ℕ} {l : List Pair} → PairsPass groups room low i l → i ≤ max_pairs → i + length l ≤ max_pairs
  pairs_few no_pair h = omega arith
  pairs_few (next_pair f d p r) h = let k = pairs_few r (omega arith) in omega arith

  pub pairs_room : {low i : ℕ} {l : List Pair} → PairsPass groups room low i l → i ≤ room → i + length l ≤ room
  pairs_room no_pair h = omega arith
  pairs_room (next_pair f d p r) h =
      let q = p.fits in
      let k = pairs_room r (omega arith) in
      omega arith

  pub pairs_digits : {low i : ℕ} {l : List Pair} → PairsPass groups room low i l → Each PairDigits l
  pairs_digits no_pair = none
  pairs_digits (next_pair f d p r) = more d (pairs_digits r)

  -- Pairs that pass are pairs that well-formed also lines say.
  pub pairs_well : {l : List Pair} → PairsPass groups room 0 0 l → FewPairs l
  pairs_well a = let k = pairs_few a (omega arith) in record { digits = pairs_digits a; few = omega arith }

  -- Pairs that pass with this room pass with any that holds them.
  pub pairs_any_room : (room' : ℕ) {low i : ℕ} {l : List Pair} → PairsPass groups room low i l → i + length l ≤ room' → PairsPass groups room' low i l
  pairs_any_room room' no_pair h = no_pair
  pairs_any_room room' (next_pair f d p r) h = next_pair f d (record { group = p.group; order = p.order; fits = omega arith }) (pairs_any_room room' r (omega arith))

-- At most 256 pairs are read, and no more than the shorter buffer holds.
pub also_few : (t groups : List ℕ) (room at : ℕ) → FewPairs (also_at t groups room at).values
also_few t groups room at = pairs_well (also_passes t groups room at)

pub also_room : (t groups : List ℕ) (room at : ℕ) → length (also_at t groups room at).values ≤ room
also_room t groups room at = let k = pairs_room (also_passes t groups room at) (omega arith) in omega arith
