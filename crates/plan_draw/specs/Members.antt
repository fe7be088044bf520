-- The members of components as records of value 0: a round's component has those of its two parts, ored byte by byte.
use Rattle.std.specs.Prelude.{ℕ, ◌+◌, ◌-◌, ◌<◌, ◌≡◌, cond, List, ltb, length, get_or, set, replicate}
use Rattle.std.specs.Int.Bits.{bit_or}
use Rattle.base_buffer.specs.Store.{remade}
use Rattle.base_limits.specs.Limits.{max_vertices, record_bytes}
use Rattle.format_record.specs.Record.{record_of, with_member_in}
use Rattle.plan_draw.specs.Trace.{Trace, member_of}

-- The record of value 0 with no member (law `no_member_record`).
abbrev pub no_member : List ℕ
no_member = replicate record_bytes 0

-- The bytes of a record, each ored with another record's.
unfoldable pub ored : (r other : List ℕ) → List ℕ
ored r other = remade (λ i b. bit_or b (get_or other i 0)) record_bytes r

-- A record with the members of component x added: a single vertex, or those of the record that its round left.
unfoldable pub with_part : (sets : List (List ℕ)) → (n x : ℕ) → List ℕ → List ℕ
with_part sets n x r = cond (ltb x n) (with_member_in r x) (ored r (get_or sets (x - n) no_member))

-- The members of two components together.
unfoldable pub union_of : (sets : List (List ℕ)) → (n x y : ℕ) → List ℕ
union_of sets n x y = with_part sets n y (with_part sets n x no_member)

-- The records of the rounds when component c with this record has arisen: a single vertex has none.
unfoldable pub sets_kept : (n c : ℕ) → (r : List ℕ) → List (List ℕ) → List (List ℕ)
sets_kept n c r sets = cond (ltb c n) sets (set sets (c - n) r)

-- A part with the bytes of a record in the place of its own.
unfoldable pub copied : (r part : List ℕ) → List ℕ
copied r part = remade (λ i b. get_or r i 0) record_bytes part

-- The first r rounds have left the members of what they made.
pub record SetsHold (t : Trace) (r : ℕ) (sets : List (List ℕ)) : Type 0 where
  pub long : length sets ≡ max_vertices
  pub at : (k : ℕ) → k < r → get_or sets k no_member ≡ record_of 0 (member_of t (t.vertices + k))
