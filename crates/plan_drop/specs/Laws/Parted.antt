-- The bits of the vertices, one after the other.
use Rattle.std.specs.Prelude.{◌≡◌, ℕ, ◌+◌, ◌≤◌, List, bit_or, bit_xor, slice_index}
use Rattle.std.proofs.Common.{arith, add-one}
use Rattle.std.proofs.Math.Path.{refl}
use Rattle.plan_drop.specs.Parted.{parted_below}

module _ (words mates : List ℕ) where
  pub parted_none : 0 ≡ parted_below words mates 0
  unfolding parted_below
  parted_none = refl

  -- One more vertex, as calls read it.
  pub parted_more : (v : ℕ) {bits w x y : ℕ} → bits ≡ parted_below words mates v → w ≡ slice_index mates v → x ≡ slice_index words v → y ≡ slice_index words w
      → bit_or bits (bit_xor x y) ≡ parted_below words mates (v + 1)
  unfolding parted_below
  parted_more v h m a b = rw (add-one v, h, a, b, m)

  pub parted_end : (n v : ℕ) {bits : ℕ} → v ≤ n → n ≤ v → bits ≡ parted_below words mates v → bits ≡ parted_below words mates n
  parted_end n v b c h = let e : n ≡ v = omega arith in rw e h
