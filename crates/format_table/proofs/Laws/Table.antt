-- Turning a table and back (document 02, No. 10): each undoes the other, for any number of rows and columns, none
-- included.
use Rattle.std.specs.Prelude.{ℕ, zero, suc, ◌+◌, ◌*◌, ◌/◌, ◌%◌, ◌<◌, ◌≤◌, ◌≡◌, refl, List, [], length, get_or}
use Rattle.std.proofs.Common.{arith, mul-le-mul_right, mod-eq_of_lt, mod-lt, div-add-mod', div-lt_iff_lt-mul, ap₂, ◌∙◌, ext_get_or}
use Rattle.std.proofs.Math.Nat.{mul-add-mod_self_right, mul-add-div_right, div-eq_of_lt}
use Rattle.std.proofs.Math.Path.{ap, sym}
use Rattle.base_finite.specs.Below.{tabulate}
use Rattle.base_finite.specs.Laws.Below.{length_tabulate, get_d_tabulate}
use Rattle.format_table.specs.Table.{track_bytes, turned, tracks_in, packed, unpacked}

pub length_turned : (rows columns : ℕ) (t : List ℕ) → length (turned rows columns t) ≡ rows * columns
unfolding turned
length_turned rows columns t = length_tabulate (rows * columns) (λ k. get_or t (k % rows * columns + k / rows) 0)

-- ---- a place by its column and row

module _ (rows i j : ℕ) (b : i < rows) where
  pub place_row : (j * rows + i) % rows ≡ i
  place_row = mul-add-mod_self_right j rows i ∙ mod-eq_of_lt b

  pub place_column : (j * rows + i) / rows ≡ j
  place_column =
      let whole : (j * rows + i) / rows ≡ j + i / rows = mul-add-div_right (omega arith) j i in
      let none : i / rows ≡ 0 = div-eq_of_lt b in
      omega arith

  pub place_below : (columns : ℕ) → j < columns → j * rows + i < rows * columns
  place_below columns c = let most : suc j * rows ≤ columns * rows = mul-le-mul_right rows c in omega arith

-- The row and the column of a place.
pub record Place (rows columns k : ℕ) : Type 0 where
  pub some : 0 < rows
  pub row : k % rows < rows
  pub column : k / rows < columns
  pub is : k / rows * rows + k % rows ≡ k

pub place_of : (rows columns k : ℕ) → k < rows * columns → Place rows columns k
place_of zero columns k h = absurd (omega arith)
place_of (suc n) columns k h =
    let turned_round : suc n * columns ≡ columns * suc n = omega arith in
    record {
      some = omega arith;
      row = mod-lt k (omega arith);
      column = (div-lt_iff_lt-mul {k = suc n} {x = k} {y = columns} (omega arith)).1 (omega arith);
      is = div-add-mod' k (suc n);
    }

-- ---- the definition

-- Byte j of row i goes to j times the number of rows, plus i.
pub turned_at_law : (rows columns : ℕ) (t : List ℕ) (i j : ℕ) → i < rows → j < columns
    → get_or (turned rows columns t) (j * rows + i) 0 ≡ get_or t (i * columns + j) 0
unfolding turned
turned_at_law rows columns t i j b c =
    get_d_tabulate (rows * columns) (λ k. get_or t (k % rows * columns + k / rows) 0) (j * rows + i) 0 (place_below rows i j b columns c)
    ∙ ap₂ (λ x y. get_or t (x * columns + y) 0) (place_row rows i j b) (place_column rows i j b)

-- Each undoes the other.
pub turned_twice : (rows columns : ℕ) (t : List ℕ) → length t ≡ rows * columns → turned columns rows (turned rows columns t) ≡ t
turned_twice rows columns t long =
    ext_get_or 0 (turned columns rows (turned rows columns t)) t
    (size ∙ sym (long ∙ other_way))
    (λ k b. back k (rw size at b))
  where
    other_way : rows * columns ≡ columns * rows
    other_way = omega arith

    size : length (turned columns rows (turned rows columns t)) ≡ columns * rows
    size = length_turned columns rows (turned rows columns t)

    back : (k : ℕ) → k < columns * rows → get_or (turned columns rows (turned rows columns t)) k 0 ≡ get_or t k 0
    back k b =
        let p : Place columns rows k = place_of columns rows k b in
        let twice = turned_at_law columns rows (turned rows columns t) (k % columns) (k / columns) p.row p.column in
        let once = turned_at_law rows columns t (k / columns) (k % columns) p.column p.row in
        ap (λ q. get_or (turned columns rows (turned rows columns t)) q 0) (sym p.is) ∙ twice ∙ once ∙ ap (λ q. get_or t q 0) p.is

-- ---- track tables

-- Whole tracks: 23 does not come.
module _ (t : List ℕ) (whole : length t % track_bytes ≡ 0) where
  rows_of : length t ≡ tracks_in t * track_bytes
  rows_of = omega arith

  pub length_packed : length (packed t) ≡ length t
  unfolding packed
  length_packed = length_turned (tracks_in t) track_bytes t ∙ sym rows_of

  pub length_unpacked : length (unpacked t) ≡ length t
  unfolding unpacked
  length_unpacked = length_turned track_bytes (tracks_in t) t ∙ (let e = rows_of in omega arith)

  pub packed_unpacked : unpacked (packed t) ≡ t
  unfolding packed unpacked
  packed_unpacked =
      ap (λ n. turned track_bytes (n / track_bytes) (packed t)) length_packed ∙ turned_twice (tracks_in t) track_bytes t rows_of

  pub unpacked_packed : packed (unpacked t) ≡ t
  unfolding packed unpacked
  unpacked_packed =
      ap (λ n. turned (n / track_bytes) track_bytes (unpacked t)) length_unpacked
      ∙ turned_twice track_bytes (tracks_in t) t (let e = rows_of in omega arith)

  -- Byte j of track i of m goes to j * m + i, and comes from there.
  pub packed_at : (i j : ℕ) → i < tracks_in t → j < track_bytes → get_or (packed t) (j * tracks_in t + i) 0 ≡ get_or t (i * track_bytes + j) 0
  unfolding packed
  packed_at i j b c = turned_at_law (tracks_in t) track_bytes t i j b c

  pub unpacked_at : (i j : ℕ) → i < tracks_in t → j < track_bytes → get_or (unpacked t) (i * track_bytes + j) 0 ≡ get_or t (j * tracks_in t + i) 0
  unfolding unpacked
  unpacked_at i j b c = turned_at_law track_bytes (tracks_in t) t j i c b

-- An empty table.
pub packed_none : packed [] ≡ []
unfolding packed turned tabulate
packed_none = refl

pub unpacked_none : unpacked [] ≡ []
unfolding unpacked turned tabulate
unpacked_none = refl
