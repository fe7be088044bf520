-- A moat record: 8 bytes of amount, then its members (document 01, 'What a plan holds'; document 02, No. 8: 56 bytes of them), and what holds of records
-- with any number of bytes of members.
use Rattle.std.specs.Prelude.{ℕ, ◌+◌, ◌*◌, ◌^◌, ◌<◌, ◌≡◌, Bool, false, ◌||◌, List, ◌++◌, eqb, length, take, drop}
use Rattle.std.proofs.lemmas.List.Edits.{sets}
use Rattle.base_finite.specs.Below.{those_below}
use Rattle.base_limits.specs.Limits.{value_bytes, member_bytes, record_bytes}
use Rattle.format_record.specs.Bits.{Bytes, bytes_of, low_bytes, number_of, member_at, with_member}

-- A record with this value and these members, which have `count` bytes.
abbrev pub record_with : (count value : ℕ) → (ℕ → Bool) → List ℕ
record_with count value S = low_bytes value_bytes value ++ bytes_of count S

-- The same with as many bytes as the limits give members.
unfoldable pub record_of : ℕ → (ℕ → Bool) → List ℕ
record_of value S = record_with member_bytes value S

unfoldable pub value_in : List ℕ → ℕ
value_in r = number_of (take value_bytes r)

unfoldable pub member_in : List ℕ → ℕ → Bool
member_in r v = member_at (drop value_bytes r) v

-- Record i of a buffer of records.
unfoldable pub record_at : List ℕ → ℕ → List ℕ
record_at bytes i = take record_bytes (drop (record_bytes * i) bytes)

-- The bytes with new ones in place of the first; what has no room is left out.
unfoldable pub overwritten : List ℕ → List ℕ → List ℕ
overwritten old new = sets old 0 new

-- The record with another value, and with member v added.
unfoldable pub with_value : List ℕ → ℕ → List ℕ
with_value r value = overwritten r (low_bytes value_bytes value)

unfoldable pub with_member_in : List ℕ → ℕ → List ℕ
with_member_in r v = take value_bytes r ++ with_member (drop value_bytes r) v

-- A record with this value and no member, from which members are added.
unfoldable pub started_as : List ℕ → ℕ → List ℕ
started_as r value = overwritten r (record_of value (λ v. false))

-- What holds of records with `count` bytes of members: their length, the value and the members read back, no member, a member added.
pub record RecordsHold (count : ℕ) : Type 0 where
  pub long : (value : ℕ) (S : ℕ → Bool) → length (record_with count value S) ≡ value_bytes + count
  pub bytes : (value : ℕ) (S : ℕ → Bool) → Bytes (record_with count value S)
  pub value_back : (value : ℕ) (S : ℕ → Bool) → value < 256 ^ value_bytes → value_in (record_with count value S) ≡ value
  pub member_back : (value : ℕ) (S : ℕ → Bool) (v : ℕ) → v < 8 * count → member_in (record_with count value S) v ≡ S v
  pub members_back : (value : ℕ) (S : ℕ → Bool) → those_below (8 * count) (member_in (record_with count value S)) ≡ those_below (8 * count) S
  pub no_member_law : (value : ℕ) → value < 256 ^ value_bytes → record_with count value (λ v. false) ≡ low_bytes (value_bytes + count) value
  pub member_added : (value : ℕ) (S : ℕ → Bool) (v : ℕ) → v < 8 * count
      → with_member_in (record_with count value S) v ≡ record_with count value (λ w. S w || eqb w v)
