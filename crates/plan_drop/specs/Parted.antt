-- What the words of all vertices and their mates say of a batch of edges, as many as a word has bits.
use Rattle.std.specs.Prelude.{ℕ, zero, suc, List, bit_or, bit_xor, slice_index}

-- All groups and all edges of a batch at once: bit k is set where some vertex below n and its mate differ in bit k of their words.
unfoldable pub parted_below : (words mates : List ℕ) → (n : ℕ) → ℕ
parted_below words mates zero = 0
parted_below words mates (suc v) = bit_or (parted_below words mates v) (bit_xor (slice_index words v) (slice_index words (slice_index mates v)))
