-- Duals as records in a buffer (document 01, 'What a plan holds': moat records).
use Rattle.std.specs.Prelude.{ℕ, zero, suc, ◌+◌, ◌*◌, ◌≤◌, ◌≡◌, Bool, ◌&&◌, cond, List, [], ◌∷◌, ◌++◌, length, take, drop, ltb, leb}
use Rattle.base_limits.specs.Limits.{record_bytes}
use Rattle.format_record.specs.Record.{record_of, with_value}
use Rattle.theory_steiner.specs.Dual.{Dual}

-- Records one after another.
unfoldable pub records_of : List Dual → List ℕ
records_of [] = []
records_of (d ∷ ds) = record_of d.value d.holds ++ records_of ds

-- The records at the start of a buffer: 'bytes after the last .. record keep their values'.
unfoldable pub records_over : List Dual → List ℕ → List ℕ
records_over ds old = records_of ds ++ drop (record_bytes * length ds) old

-- The records after the first k of a buffer.
unfoldable pub records_from : ℕ → List Dual → List ℕ → List ℕ
records_from k ds old = take (record_bytes * k) old ++ records_over ds (drop (record_bytes * k) old)

-- The records of these duals, and nothing else, are new in the buffer, and `count` says how many there are.
pub record DualsWritten (ds : List Dual) (old new : List ℕ) (count : ℕ) : Type 0 where
  pub count_is : count ≡ length ds
  pub records_are : new ≡ records_over ds old

-- 'Moats with amount 0 are left out': the dual with this value and these members, or none.
unfoldable pub dual_if : ℕ → (ℕ → Bool) → List Dual
dual_if value S = cond (ltb 0 value) (record { value = value; holds = S } ∷ []) []

-- A buffer with these bytes in the place of record k.
unfoldable pub record_put : (k : ℕ) → (r old : List ℕ) → List ℕ
record_put k r old = take (record_bytes * k) old ++ (r ++ drop (record_bytes * k + record_bytes) old)

-- Whether a dual of this value gets a record after the first k of a buffer: not one of value 0, and none without room.
unfoldable pub is_put : (k value : ℕ) → (old : List ℕ) → Bool
is_put k value old = ltb 0 value && leb (record_bytes * (k + 1)) (length old)

-- The buffer then, and how many records it has: the value, and the members of a record of value 0 (law `put_dual_law`).
unfoldable pub dual_put : (k value : ℕ) → (members old : List ℕ) → List ℕ
dual_put k value members old = cond (is_put k value old) (record_put k (with_value members value) old) old

unfoldable pub count_put : (k value : ℕ) → (old : List ℕ) → ℕ
count_put k value old = cond (is_put k value old) (k + 1) k

-- The duals of the component numbers below c, rising.
unfoldable pub duals_below : (value : ℕ → ℕ) → (holds : ℕ → ℕ → Bool) → ℕ → List Dual
duals_below value holds zero = []
duals_below value holds (suc c) = duals_below value holds c ++ dual_if (value c) (holds c)

-- There is room for k records.
pub record RecordsFit (k : ℕ) (records : List ℕ) : Type 0 where
  pub room : record_bytes * k ≤ length records
