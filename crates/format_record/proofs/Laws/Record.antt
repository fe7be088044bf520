-- Laws of moat records: what was written is read back, lengths, and the records of a buffer.
use Rattle.std.specs.Prelude.{ℕ, ◌+◌, ◌*◌, ◌-◌, ◌/◌, ◌^◌, ◌≤◌, ◌<◌, ◌≡◌, Bool, false, ◌||◌, List, ◌++◌, length, take, drop, set, eqb}
use Rattle.std.proofs.Common.{arith, sym, ◌∙◌, append-nil, length-append, length-drop, take-append-drop, drop_of_length-le, take_all, take_at}
use Rattle.std.proofs.Math.Path.{ap}
use Rattle.std.proofs.Math.Seq.{take-nil, drop_at, drop-append-add}
use Rattle.std.proofs.lemmas.List.Edits.{sets-eq}
use Rattle.std.proofs.lemmas.List.{take-set-le, drop-set-add}
use Rattle.base_finite.specs.Below.{those_below}
use Rattle.base_limits.specs.Limits.{value_bytes, member_bytes, record_bytes}
use Rattle.format_record.specs.Bits.{Bytes, bytes_of, member_at, low_bytes, number_of}
use Rattle.format_record.specs.Record.{record_with, record_of, value_in, member_in, record_at, overwritten, with_member_in, started_as, RecordsHold}
use Rattle.format_record.proofs.Laws.Bits.{length_bytes, bytes_bytes, member_of_bytes, bytes_add, those_cong}
use Rattle.format_record.proofs.Laws.Bytes.{length_low, low_bytes_law, bytes_append, number_of_low, number_part_lt, bytes_part, low_append, bytes_of_none}

-- ---- any number of bytes of members

module _ (count : ℕ) where
  long_with : (value : ℕ) (S : ℕ → Bool) → length (record_with count value S) ≡ value_bytes + count
  long_with value S =
      let a : length (low_bytes value_bytes value) ≡ value_bytes = length_low value_bytes value in
      let b : length (bytes_of count S) ≡ count = length_bytes count S in
      let c = length-append (low_bytes value_bytes value) (bytes_of count S) in
      omega arith

  value_with : (value : ℕ) (S : ℕ → Bool) → value < 256 ^ value_bytes → value_in (record_with count value S) ≡ value
  unfolding value_in
  value_with value S h =
      ap number_of (take_at (low_bytes value_bytes value) (bytes_of count S) value_bytes (length_low value_bytes value))
      ∙ number_of_low value_bytes value h

  member_with : (value : ℕ) (S : ℕ → Bool) (v : ℕ) → v < 8 * count → member_in (record_with count value S) v ≡ S v
  unfolding member_in
  member_with value S v h =
      ap (λ l. member_at l v) (drop_at (low_bytes value_bytes value) (bytes_of count S) value_bytes (length_low value_bytes value))
      ∙ member_of_bytes count S v h

  none_with : (value : ℕ) → value < 256 ^ value_bytes → record_with count value (λ v. false) ≡ low_bytes (value_bytes + count) value
  none_with value h = ap (λ l. low_bytes value_bytes value ++ l) (bytes_of_none count) ∙ sym (low_append value_bytes count value h)

  added_with : (value : ℕ) (S : ℕ → Bool) (v : ℕ) → v < 8 * count
      → with_member_in (record_with count value S) v ≡ record_with count value (λ w. S w || eqb w v)
  unfolding with_member_in
  added_with value S v h =
      let low = low_bytes value_bytes value in
      let members = bytes_of count S in
      rw (take_at low members value_bytes (length_low value_bytes value), drop_at low members value_bytes (length_low value_bytes value))
      (ap (λ l. low ++ l) (bytes_add count S v h))

  pub records_hold : RecordsHold count
  records_hold =
      record {
        long = long_with;
        bytes = λ value S. bytes_append (low_bytes value_bytes value) (bytes_of count S) (low_bytes_law value_bytes value) (bytes_bytes count S);
        value_back = value_with;
        member_back = member_with;
        members_back = λ value S. those_cong (8 * count) _ _ (member_with value S);
        no_member_law = none_with;
        member_added = added_with;
      }

-- Document 01's records, and those of document 02, No. 8.
pub records_of_32 : RecordsHold 32
records_of_32 = records_hold 32

pub records_of_56 : RecordsHold 56
records_of_56 = records_hold 56

-- ---- the records of the limits

pub length_record : (value : ℕ) (S : ℕ → Bool) → length (record_of value S) ≡ record_bytes
unfolding record_of
length_record value S = (records_hold member_bytes).long value S

-- A record is one of bytes.
pub bytes_record : (value : ℕ) (S : ℕ → Bool) → Bytes (record_of value S)
unfolding record_of
bytes_record value S = (records_hold member_bytes).bytes value S

-- Reading back the value and the members.
pub value_of_record : (value : ℕ) (S : ℕ → Bool) → value < 256 ^ value_bytes → value_in (record_of value S) ≡ value
unfolding record_of
value_of_record value S h = (records_hold member_bytes).value_back value S h

pub member_of_record : (value : ℕ) (S : ℕ → Bool) (v : ℕ) → v < 8 * member_bytes → member_in (record_of value S) v ≡ S v
unfolding record_of
member_of_record value S v h = (records_hold member_bytes).member_back value S v h

pub members_of_record : (value : ℕ) (S : ℕ → Bool) → those_below (8 * member_bytes) (member_in (record_of value S)) ≡ those_below (8 * member_bytes) S
unfolding record_of
members_of_record value S = (records_hold member_bytes).members_back value S

-- The value of a record of bytes fits its bytes.
pub value_lt : (r : List ℕ) → Bytes r → value_in r < 256 ^ value_bytes
unfolding value_in
value_lt r h = number_part_lt value_bytes 0 r h

pub bytes_record_at : (records : List ℕ) (i : ℕ) → Bytes records → Bytes (record_at records i)
unfolding record_at
bytes_record_at records i h = bytes_part record_bytes (record_bytes * i) records h

-- ---- writing

pub overwritten_fits : (old new : List ℕ) → length new ≤ length old → overwritten old new ≡ new ++ drop (length new) old
unfolding overwritten
overwritten_fits old new h =
    let e : 0 + length new ≡ length new = omega arith in
    sets-eq new old 0 (omega arith) ∙ ap (λ n. new ++ drop n old) e

pub overwritten_whole : (old new : List ℕ) → length old ≡ length new → overwritten old new ≡ new
overwritten_whole old new h =
    let all : length old ≤ length new = omega arith in
    overwritten_fits old new (omega arith)
    ∙ ap (λ l. new ++ l) (drop_of_length-le old all)
    ∙ append-nil new

pub started_whole : (r : List ℕ) (value : ℕ) → length r ≡ record_bytes → started_as r value ≡ record_of value (λ v. false)
unfolding started_as
started_whole r value h = overwritten_whole r _ (h ∙ sym (length_record value (λ v. false)))

-- A record with no member is its value in all its bytes.
pub record_of_none : (value : ℕ) → value < 256 ^ value_bytes → record_of value (λ v. false) ≡ low_bytes record_bytes value
unfolding record_of
record_of_none value h = (records_hold member_bytes).no_member_law value h

pub member_added_record : (value : ℕ) (S : ℕ → Bool) (v : ℕ) → v < 8 * member_bytes → with_member_in (record_of value S) v ≡ record_of value (λ w. S w || eqb w v)
unfolding record_of
member_added_record value S v h = (records_hold member_bytes).member_added value S v h

-- A byte stored past the value is stored among the members.
pub set_past : (n i x : ℕ) (r : List ℕ) → set r (n + i) x ≡ take n r ++ set (drop n r) i x
set_past n i x r =
    sym (take-append-drop n (set r (n + i) x))
    ∙ ap (λ l. l ++ drop n (set r (n + i) x)) (take-set-le n r (n + i) x (omega arith))
    ∙ ap (λ l. take n r ++ l) (drop-set-add n r i x)

-- ---- the records of a buffer

pub record_at_first : (r rest : List ℕ) → length r ≡ record_bytes → record_at (r ++ rest) 0 ≡ r
unfolding record_at
record_at_first r rest h = take_at r rest record_bytes h

-- Of the records of two buffers, one after the other.
pub record_at_right : (n : ℕ) (xs ys : List ℕ) (i : ℕ) → length xs ≡ record_bytes * n → record_at (xs ++ ys) (n + i) ≡ record_at ys i
unfolding record_at
record_at_right n xs ys i h =
    let e : record_bytes * (n + i) ≡ length xs + record_bytes * i = omega arith in
    ap (λ k. take record_bytes (drop k (xs ++ ys))) e ∙ ap (take record_bytes) (drop-append-add xs ys (record_bytes * i))

-- A record as the part of the buffer between two bounds: past the end, at the end, and whole.
pub record_at_past : (records : List ℕ) (i : ℕ) → length records / record_bytes < i
    → take (length records - length records) (drop (length records) records) ≡ record_at records i
unfolding record_at
record_at_past records i h =
    let none : length records ≤ record_bytes * i = omega arith in
    let all : length records ≤ length records = omega arith in
    rw (drop_of_length-le records none, drop_of_length-le records all, take-nil (length records - length records), take-nil record_bytes)

pub record_at_end : (records : List ℕ) (i : ℕ) → length records - record_bytes * i < record_bytes
    → take (length records - record_bytes * i) (drop (record_bytes * i) records) ≡ record_at records i
unfolding record_at
record_at_end records i h =
    let rest : length (drop (record_bytes * i) records) ≡ length records - record_bytes * i = length-drop (record_bytes * i) records in
    take_all (length records - record_bytes * i) (drop (record_bytes * i) records) (omega arith)
    ∙ sym (take_all record_bytes (drop (record_bytes * i) records) (omega arith))

pub record_at_whole : (records : List ℕ) (i : ℕ)
    → take (record_bytes * i + record_bytes - record_bytes * i) (drop (record_bytes * i) records) ≡ record_at records i
unfolding record_at
record_at_whole records i =
    let e : record_bytes * i + record_bytes - record_bytes * i ≡ record_bytes = omega arith in
    ap (λ n. take n (drop (record_bytes * i) records)) e
