-- What judging a batch of edges, as many as a word has bits, makes of their marks.
use Rattle.std.specs.Prelude.{◌≡◌, ℕ, ◌+◌, ◌-◌, Bool, cond, ◌&&◌, List, slice_index, slice_set}
use Rattle.base_finite.specs.Below.{counted, count_below}
use Rattle.format_record.specs.Bits.{bit_at}
use Rattle.plan_drop.specs.Word.{in_batch}

-- A set of vertices: those whose word has bit k.
unfoldable pub side_in : (words : List ℕ) → (k v : ℕ) → Bool
side_in words k v = bit_at (slice_index words v) k

-- The edge with index i is of this batch, and its bit is set.
unfoldable pub judged : (bits base i : ℕ) → Bool
judged bits base i = in_batch base i && bit_at bits (i - base)

-- A picked edge that is judged needed gets 2; other marks stay.
unfoldable pub raised : (ℕ → Bool) → (ℕ → Bool) → (e mark : ℕ) → ℕ
raised F judgement e mark = cond (F e && judgement (count_below e F)) 2 mark

-- The marks and the next index after an edge that has the index i.
pub record MarkStep (in_set good : Bool) (e i : ℕ) (marks : List ℕ) (next : ℕ) (after : List ℕ) : Type 0 where
  pub index : next ≡ i + counted in_set 1
  pub marks_are : after ≡ slice_set marks e (cond (in_set && good) 2 (slice_index marks e))
