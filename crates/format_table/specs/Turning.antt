-- What the code does: it stores one column after another, and in a column one byte after another.
use Rattle.std.specs.Prelude.{ℕ, zero, suc, ◌+◌, ◌*◌, ◌<◌, ◌≤◌, List, length, get_or, set}

-- A buffer in which the first i bytes of column j are stored.
unfoldable pub column_stored : (rows columns : ℕ) → (t : List ℕ) → (j i : ℕ) → (out : List ℕ) → List ℕ
column_stored rows columns t j zero out = out
column_stored rows columns t j (suc i) out = set (column_stored rows columns t j i out) (j * rows + i) (get_or t (i * columns + j) 0)

-- A buffer in which the first j columns are stored.
unfoldable pub columns_stored : (rows columns : ℕ) → (t : List ℕ) → (j : ℕ) → (out : List ℕ) → List ℕ
columns_stored rows columns t zero out = out
columns_stored rows columns t (suc j) out = column_stored rows columns t j rows (columns_stored rows columns t j out)

-- Room in the table and in the buffer for so many rows and columns.
pub record Holds (rows columns : ℕ) (t out : List ℕ) : Type 0 where
  pub table : rows * columns ≤ length t
  pub buffer : rows * columns ≤ length out

-- The same, and j is one of the columns.
pub record HoldsColumn (rows columns j : ℕ) (t out : List ℕ) : Type 0 where
  pub table : rows * columns ≤ length t
  pub buffer : rows * columns ≤ length out
  pub column : j < columns
